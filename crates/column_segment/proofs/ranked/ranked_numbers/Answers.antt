use Rattle.std.proofs.Common.{ℕ, List, length, map, arith}
use Rattle.std.proofs.lemmas.List.{length-map}
use Rattle.std.proofs.lemmas.Result.{IfOk-weaker}
use Rattle.cs_types.specs.Rows.{cell_at, number_cell}
use Rattle.column_segment.specs.declared.segment.Segment.{Segment}
use Rattle.column_segment.specs.Ranks.{AreMovedRanks}
use Rattle.column_segment.specs.Segments.{IsSegmentOf}
use Rattle.column_segment.proofs.Dicts.{bare-no-text}
use Rattle.column_segment.proofs.Moved.{range-within, cells-moved, no-text-moved, coded-moved}
use Rattle.column_segment.proofs.ranked.ranked_numbers.Goals as goal

pub number_dict-requires-clause-some : goal.number_dict-requires-clause-some
number_dict-requires-clause-some c =
    let (order, moved) = c.requires.picked in
    omega (arith, range-within (length (map number_cell c.args.numbers.now)) order moved.all 0 0 moved.some, length-map c.args.numbers.now number_cell)

pub bare_segment-requires : goal.bare_segment-requires
bare_segment-requires c =
    let cells = map number_cell c.args.numbers.now in
    let (order, moved) = c.requires.picked in (
      map (cell_at cells) order,
      coded-moved cells c.in_ok-dict.dict c.args.ranks.now order c.args.codes.now moved.some moved.all c.in_ok-dict.ensures.dict c.in_ok-dict.ensures.codes moved.picked,
      no-text-moved cells (map (cell_at cells) order) (cells-moved cells order moved.all) (bare-no-text c.args.numbers.now),
    )

pub returns : goal.returns
returns c =
    let cells = map number_cell c.args.numbers.now in
    let Wanted : Segment → Type 0 = λ s. (order : List ℕ) → AreMovedRanks cells c.args.ranks.now order c.args.codes.now → IsSegmentOf (map (cell_at cells) order) s.length s.body s.least s.greatest s.nulls in
    IfOk-weaker c.bare_segment.result _ Wanted
    (λ (s : Segment) is order moved.
    is (map (cell_at cells) order)
    (coded-moved cells c.in_ok-dict.dict c.args.ranks.now order c.args.codes.now moved.some moved.all c.in_ok-dict.ensures.dict c.in_ok-dict.ensures.codes moved.picked)
    (no-text-moved cells (map (cell_at cells) order) (cells-moved cells order moved.all) (bare-no-text c.args.numbers.now))) c.bare_segment.ensures
