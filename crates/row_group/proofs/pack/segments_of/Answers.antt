use Rattle.std.proofs.Common.{◌≡◌, ◌<◌, ◌++◌, ◌∷◌, [], ℕ, List, Some, length, length-append, get_or, sym, ◌∙◌, ap, subst, arith, IsTrue}
use Rattle.std.specs.List.{All, range_with_len, slice_get}
use Rattle.std.specs.List.Sorted.{IsPermutation}
use Rattle.std.specs.Vec.Iter.{into_iter_items}
use Rattle.std.proofs.lemmas.List.{append-nil, append_assoc, get_or_at, nil_from_length}
use Rattle.cs_types.specs.declared.Column.{Column}
use Rattle.cs_types.specs.declared.Value.{Value}
use Rattle.cs_types.specs.Kinds.{is_of_type}
use Rattle.column_segment.specs.declared.segment.Segment.{Segment}
use Rattle.cs_types.specs.Values.{value_cmp}
use Rattle.row_group.specs.Orders.{AreRanks}
use Rattle.column_segment.specs.Ranks.{ArePicked}
use Rattle.row_group.specs.Arranged.{AreSegmentsOf, codes_of}
use Rattle.row_group.proofs.FieldLemmas.{segments-more}
use Rattle.row_group.proofs.SegmentLemmas.{ranks-read, codes-read}
use Rattle.row_group.proofs.pack.segments_of.Goals as goal

pub segment_at-requires-clause-kept : goal.segment_at-requires-clause-kept
segment_at-requires-clause-kept c =
    let cells = c.in-Some.cells in
    let rest = ap (λ items. c.loop-cells.yielded ++ items) (sym c.in-Some.ensures.steps.0) ∙ c.loop-cells.invariant.rest in
    let place : length c.loop-cells.yielded ≡ c.len-place.result = sym (c.len-place.ensures ∙ c.loop-cells.invariant.made.0) in
    let here = ap (λ columns. get_or columns c.len-place.result []) (sym rest) ∙ get_or_at c.loop-cells.yielded cells (into_iter_items c.next.new.self) [] c.len-place.result place in
    subst (λ (cells : List Value). (column : Column) → slice_get c.args.schema.now.columns c.len-place.result ≡ Some column → All (λ cell. IsTrue (is_of_type column.kind cell)) cells) here (c.requires.kept c.len-place.result)

pub segment_at-requires-clause-ranks : goal.segment_at-requires-clause-ranks
segment_at-requires-clause-ranks c =
    let ranks = c.index-ranks-place.result in
    let cells = c.in-Some.cells in
    let rest = ap (λ items. c.loop-cells.yielded ++ items) (sym c.in-Some.ensures.steps.0) ∙ c.loop-cells.invariant.rest in
    let place : length c.loop-cells.yielded ≡ c.len-place.result = sym (c.len-place.ensures ∙ c.loop-cells.invariant.made.0) in
    let here = ap (λ columns. get_or columns c.len-place.result []) (sym rest) ∙ get_or_at c.loop-cells.yielded cells (into_iter_items c.next.new.self) [] c.len-place.result place in
    let there : c.len-place.result < length c.args.columns.items = omega (arith, ap length rest, length-append c.loop-cells.yielded (cells ∷ into_iter_items c.next.new.self), place) in
    subst (λ (column : List Value). AreRanks value_cmp column ranks.codes.items ranks.count) here (ranks-read c.args.columns.items c.args.ranks.now c.len-place.result ranks c.requires.ranks there c.index-ranks-place.is)

pub segment_at-requires-clause-all : goal.segment_at-requires-clause-all
segment_at-requires-clause-all c =
    let cells = c.in-Some.cells in
    let rest = ap (λ items. c.loop-cells.yielded ++ items) (sym c.in-Some.ensures.steps.0) ∙ c.loop-cells.invariant.rest in
    let place : length c.loop-cells.yielded ≡ c.len-place.result = sym (c.len-place.ensures ∙ c.loop-cells.invariant.made.0) in
    let here = ap (λ columns. get_or columns c.len-place.result []) (sym rest) ∙ get_or_at c.loop-cells.yielded cells (into_iter_items c.next.new.self) [] c.len-place.result place in
    let there : c.len-place.result < length c.args.columns.items = omega (arith, ap length rest, length-append c.loop-cells.yielded (cells ∷ into_iter_items c.next.new.self), place) in
    subst (λ (column : List Value). IsPermutation (range_with_len 0 (length column)) c.args.order.now) here (c.requires.all c.len-place.result [] there)

pub segment_at-requires-clause-key : goal.segment_at-requires-clause-key
segment_at-requires-clause-key c = λ same.
    let ranks = c.index-ranks-place.result in
    let cells = c.in-Some.cells in
    let rest = ap (λ items. c.loop-cells.yielded ++ items) (sym c.in-Some.ensures.steps.0) ∙ c.loop-cells.invariant.rest in
    let place : length c.loop-cells.yielded ≡ c.len-place.result = sym (c.len-place.ensures ∙ c.loop-cells.invariant.made.0) in
    let here = ap (λ columns. get_or columns c.len-place.result []) (sym rest) ∙ get_or_at c.loop-cells.yielded cells (into_iter_items c.next.new.self) [] c.len-place.result place in
    let there : c.len-place.result < length c.args.columns.items = omega (arith, ap length rest, length-append c.loop-cells.yielded (cells ∷ into_iter_items c.next.new.self), place) in
    let read = codes-read c.args.ranks.now c.len-place.result ranks (omega (arith, there, c.requires.ranks.0)) c.index-ranks-place.is in
    subst (λ (codes : List ℕ). ArePicked codes c.args.order.now c.args.key_codes.now) (ap (λ c'. codes_of (slice_get c.args.ranks.now c')) (sym same) ∙ read) c.requires.key

pub loop-cells-preserved : goal.loop-cells-preserved
loop-cells-preserved c =
    let cells = c.in-Some.cells in
    let segment = c.in_ok-segment.segment in
    let one = c.in_ok-segment.ensures in
    record {
      made = subst (λ (segments : List Segment). AreSegmentsOf (c.loop-cells.yielded ++ cells ∷ []) c.args.order.now segments) (sym c.in_ok-push.ensures.ok)
          (segments-more c.loop-cells.yielded cells c.args.order.now c.loop-cells.segments segment c.loop-cells.invariant.made one);
      rest = append_assoc c.loop-cells.yielded (cells ∷ []) (into_iter_items c.next.new.self)
          ∙ ap (λ items. c.loop-cells.yielded ++ items) (sym c.in-Some.ensures.steps.0) ∙ c.loop-cells.invariant.rest;
    }

pub returns : goal.returns
returns c =
    let left = into_iter_items c.loop-cells.cells-iterator in
    let none : left ≡ [] = nil_from_length left (omega (arith, c.loop-cells.cells-iterator.rest.ok.0, c.in-None.ensures.steps.0)) in
    let all = sym (append-nil c.loop-cells.yielded) ∙ ap (λ items. c.loop-cells.yielded ++ items) (sym none) ∙ c.loop-cells.invariant.rest in
    subst (λ (columns : List (List Value)). AreSegmentsOf columns c.args.order.now c.loop-cells.segments) all c.loop-cells.invariant.made
