use Rattle.std.proofs.Common.{◌≡◌, ◌<◌, ℕ, List, length, map, slice_get, Some}
use Rattle.std.proofs.lemmas.Result.{IfOk-weaker}
use Rattle.cs_types.specs.Rows.{cell_at, number_cell}
use Rattle.column_segment.specs.declared.segment.Segment.{Segment}
use Rattle.column_segment.specs.Bodies.{cell_in}
use Rattle.column_segment.specs.Ranks.{AreMovedRanks}
use Rattle.column_segment.specs.Segments.{IsSegmentOf}
use Rattle.column_segment.proofs.Kept.{segment-cells}
use Rattle.column_segment.proofs.ranked.encode_numbers.Goals as goal

pub returns-clause-cells : goal.returns-clause-cells
returns-clause-cells c =
    let cells = map number_cell c.args.numbers.now in
    let ranks = c.args.ranks.now in
    let codes = c.args.codes.now in
    let Made : Segment → Type 0 = λ s. (order : List ℕ) → AreMovedRanks cells ranks order codes → IsSegmentOf (map (cell_at cells) order) s.length s.body s.least s.greatest s.nulls in
    let Wanted : Segment → Type 0 = λ s. (order : List ℕ) → AreMovedRanks cells ranks order codes → ((i : ℕ) → i < length (map (cell_at cells) order) → slice_get (map (cell_at cells) order) i ≡ Some (cell_in s.body i)) in
    IfOk-weaker c.ranked_numbers.result Made Wanted (λ s is order moved. segment-cells (map (cell_at cells) order) s.length s.body s.least s.greatest s.nulls (is order moved)) c.ranked_numbers.ensures
