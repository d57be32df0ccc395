use Rattle.std.proofs.Common.{ℕ, List, length, map, sym, ap, subst, arith}
use Rattle.std.proofs.lemmas.Result.{IfOk-weaker}
use Rattle.cs_types.specs.Rows.{cell_at}
use Rattle.column_segment.specs.declared.segment.Segment.{Segment}
use Rattle.column_segment.specs.Ranks.{ArePicked, AreMovedRanks}
use Rattle.column_segment.proofs.Moved.{range-within}
use Rattle.row_group.specs.Arranged.{IsColumnSegment}
use Rattle.row_group.proofs.pack.segment_at.Goals as goal

pub segment_of-requires-clause-picked : goal.segment_of-requires-clause-picked
segment_of-requires-clause-picked c =
    (c.args.order.now, record { some = c.requires.some; all = c.requires.all; picked = c.requires.key c.if-place-schema.true })

pub returns-then-place-schema : goal.returns-then-place-schema
returns-then-place-schema c =
    let order = c.args.order.now in
    let moved : AreMovedRanks c.args.cells c.args.ranks.now.codes.items order c.args.key_codes.now = record { some = c.requires.some; all = c.requires.all; picked = c.requires.key c.if-place-schema.true } in
    IfOk-weaker c.segment_of.result _ (λ (s : Segment). IsColumnSegment (map (cell_at c.args.cells) order) s) (λ (s : Segment) is. is order moved) c.segment_of.ensures

pub picked-requires : goal.picked-requires
picked-requires c = λ k d l.
    omega (arith, range-within (length c.args.cells) c.args.order.now c.requires.all k d l, c.requires.ranks.counted, ap length c.deref.ensures.value)

pub segment_of-requires-2-clause-picked : goal.segment_of-requires-2-clause-picked
segment_of-requires-2-clause-picked c =
    let order = c.args.order.now in
    let picked = subst (λ (codes : List ℕ). ArePicked codes order c.in_ok-codes.codes.items) c.deref.ensures.value c.in_ok-codes.ensures in
    (order, record { some = c.requires.some; all = c.requires.all; picked = subst (ArePicked c.args.ranks.now.codes.items order) (sym c.deref-2.ensures.value) picked })

pub returns : goal.returns
returns c =
    let order = c.args.order.now in
    let picked = subst (λ (codes : List ℕ). ArePicked codes order c.in_ok-codes.codes.items) c.deref.ensures.value c.in_ok-codes.ensures in
    let moved : AreMovedRanks c.args.cells c.args.ranks.now.codes.items order c.deref-2.result.now = record { some = c.requires.some; all = c.requires.all; picked = subst (ArePicked c.args.ranks.now.codes.items order) (sym c.deref-2.ensures.value) picked } in
    IfOk-weaker c.segment_of-2.result _ (λ (s : Segment). IsColumnSegment (map (cell_at c.args.cells) order) s) (λ (s : Segment) is. is order moved) c.segment_of-2.ensures
