use Rattle.std.proofs.Common.{◌∙◌, ℕ, List, map, sym, ap, subst, IsTrue}
use Rattle.std.specs.List.{All}
use Rattle.std.proofs.lemmas.Result.{IfOk-weaker}
use Rattle.cs_types.specs.declared.Value.{Value}
use Rattle.cs_types.specs.Kinds.{is_of_type}
use Rattle.cs_types.specs.Rows.{cell_at, number_cell}
use Rattle.column_segment.specs.declared.segment.Segment.{Segment}
use Rattle.column_segment.specs.Cells.{seen}
use Rattle.column_segment.specs.Ranks.{AreCellRanks, AreMovedRanks}
use Rattle.row_group.specs.Arranged.{IsColumnSegment}
use Rattle.row_group.proofs.SegmentLemmas.{codes-ranks, both-hold}
use Rattle.row_group.proofs.pack.segment_of.Goals as goal

pub encode_numbers-requires-clause-ranks : goal.encode_numbers-requires-clause-ranks
encode_numbers-requires-clause-ranks c =
    let ranks = c.args.ranks.now in
    subst (λ (codes : List ℕ). AreCellRanks (map number_cell c.in-Some.numbers.now) codes ranks.count) (sym c.deref.ensures.value)
    (subst (λ (cells : List Value). AreCellRanks cells ranks.codes.items ranks.count) (sym c.in-Some.ensures)
    (codes-ranks c.args.cells ranks.codes.items ranks.count c.requires.ranks ranks.below))

pub encode_numbers-requires-clause-picked : goal.encode_numbers-requires-clause-picked
encode_numbers-requires-clause-picked c =
    subst (λ (ranks : List ℕ). (order : List ℕ) × AreMovedRanks (map number_cell c.in-Some.numbers.now) ranks order c.args.codes.now) (sym c.deref.ensures.value)
    (subst (λ (cells : List Value). (order : List ℕ) × AreMovedRanks cells c.args.ranks.now.codes.items order c.args.codes.now) (sym c.in-Some.ensures) c.requires.picked)

pub returns-in-Some : goal.returns-in-Some
returns-in-Some c =
    let Of : List Value → List ℕ → Segment → Type 0 = λ cells ranks s. (order : List ℕ) → AreMovedRanks cells ranks order c.args.codes.now → IsColumnSegment (map (cell_at cells) order) s in
    let both = both-hold c.encode_numbers.result _ _ c.encode_numbers.ensures.segment c.encode_numbers.ensures.cells in
    IfOk-weaker c.encode_numbers.result _ (Of c.args.cells c.args.ranks.now.codes.items)
    (λ (s : Segment) is. subst (λ (ranks : List ℕ). Of c.args.cells ranks s) c.deref.ensures.value
    (subst (λ (cells : List Value). Of cells c.deref.result.now s) c.in-Some.ensures (λ order moved. (is.0 order moved, is.1 order moved)))) both

pub encode_ranked-requires-clause-of_type : goal.encode_ranked-requires-clause-of_type
encode_ranked-requires-clause-of_type c =
    subst (λ (column : List Value). All (λ cell. IsTrue (is_of_type c.args.kind cell)) column) (sym (ap (map seen) c.deref-2.ensures.value ∙ c.in_ok-shown.ensures)) c.requires.of_type

pub encode_ranked-requires-clause-ranks : goal.encode_ranked-requires-clause-ranks
encode_ranked-requires-clause-ranks c =
    let ranks = c.args.ranks.now in
    subst (λ (codes : List ℕ). AreCellRanks (map seen c.deref-2.result.now) codes ranks.count) (sym c.deref-3.ensures.value)
    (subst (λ (cells : List Value). AreCellRanks cells ranks.codes.items ranks.count) (sym (ap (map seen) c.deref-2.ensures.value ∙ c.in_ok-shown.ensures))
    (codes-ranks c.args.cells ranks.codes.items ranks.count c.requires.ranks ranks.below))

pub encode_ranked-requires-clause-picked : goal.encode_ranked-requires-clause-picked
encode_ranked-requires-clause-picked c =
    subst (λ (ranks : List ℕ). (order : List ℕ) × AreMovedRanks (map seen c.deref-2.result.now) ranks order c.args.codes.now) (sym c.deref-3.ensures.value)
    (subst (λ (cells : List Value). (order : List ℕ) × AreMovedRanks cells c.args.ranks.now.codes.items order c.args.codes.now) (sym (ap (map seen) c.deref-2.ensures.value ∙ c.in_ok-shown.ensures)) c.requires.picked)

pub returns : goal.returns
returns c =
    let is_shown = ap (map seen) c.deref-2.ensures.value ∙ c.in_ok-shown.ensures in
    let Of : List Value → List ℕ → Segment → Type 0 = λ cells ranks s. (order : List ℕ) → AreMovedRanks cells ranks order c.args.codes.now → IsColumnSegment (map (cell_at cells) order) s in
    let both = both-hold c.encode_ranked.result _ _ c.encode_ranked.ensures.segment c.encode_ranked.ensures.cells in
    IfOk-weaker c.encode_ranked.result _ (Of c.args.cells c.args.ranks.now.codes.items)
    (λ (s : Segment) is. subst (λ (ranks : List ℕ). Of c.args.cells ranks s) c.deref-3.ensures.value
    (subst (λ (cells : List Value). Of cells c.deref-3.result.now s) is_shown (λ order moved. (is.0 order moved, is.1 order moved)))) both
