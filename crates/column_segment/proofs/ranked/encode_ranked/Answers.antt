use Rattle.std.proofs.Common.{◌≡◌, ◌<◌, ℕ, List, length, map, slice_get, Some, sym, ◌∙◌, ap, subst}
use Rattle.std.proofs.lemmas.Result.{IfOk-weaker}
use Rattle.column_segment.specs.declared.segment.Segment.{Segment}
use Rattle.cs_types.specs.declared.Value.{Value}
use Rattle.cs_types.specs.Rows.{cell_at, number_cell}
use Rattle.column_segment.specs.Cells.{seen}
use Rattle.column_segment.specs.Bodies.{cell_in}
use Rattle.column_segment.specs.Segments.{IsSegmentOf}
use Rattle.column_segment.specs.Ranks.{AreCellRanks, AreMovedRanks}
use Rattle.column_segment.proofs.Dicts.{cells-bare}
use Rattle.column_segment.proofs.Kept.{segment-cells}
use Rattle.column_segment.proofs.ranked.encode_ranked.Goals as goal

pub returns-then-shows_text-clause-cells : goal.returns-then-shows_text-clause-cells
returns-then-shows_text-clause-cells c =
    let cells = map seen c.args.cells.now in
    let ranks = c.args.ranks.now in
    let codes = c.args.codes.now in
    let Made : Segment → Type 0 = λ s. (order : List ℕ) → AreMovedRanks cells ranks order codes → IsSegmentOf (map (cell_at cells) order) s.length s.body s.least s.greatest s.nulls in
    let Wanted : Segment → Type 0 = λ s. (order : List ℕ) → AreMovedRanks cells ranks order codes → ((i : ℕ) → i < length (map (cell_at cells) order) → slice_get (map (cell_at cells) order) i ≡ Some (cell_in s.body i)) in
    IfOk-weaker c.ranked_texts.result Made Wanted (λ s is order moved. segment-cells (map (cell_at cells) order) s.length s.body s.least s.greatest s.nulls (is order moved)) c.ranked_texts.ensures

pub ranked_numbers-requires-clause-ranks : goal.ranked_numbers-requires-clause-ranks
ranked_numbers-requires-clause-ranks c =
    let cells = map seen c.args.cells.now in
    let none = rw c.if-shows_text.false at c.shows_text.ensures.none in
    let back = ap (map number_cell) (c.as_slice.ensures.value ∙ c.in_ok-numbers.ensures) ∙ cells-bare cells none in
    subst (λ (some : List Value). AreCellRanks some c.args.ranks.now c.args.count) (sym back) c.requires.ranks

pub ranked_numbers-requires-clause-picked : goal.ranked_numbers-requires-clause-picked
ranked_numbers-requires-clause-picked c =
    let cells = map seen c.args.cells.now in
    let none = rw c.if-shows_text.false at c.shows_text.ensures.none in
    let back = ap (map number_cell) (c.as_slice.ensures.value ∙ c.in_ok-numbers.ensures) ∙ cells-bare cells none in
    subst (λ (some : List Value). (order : List ℕ) × AreMovedRanks some c.args.ranks.now order c.args.codes.now) (sym back) c.requires.picked

pub returns-in_ok-numbers-clause-segment : goal.returns-in_ok-numbers-clause-segment
returns-in_ok-numbers-clause-segment c =
    let cells = map seen c.args.cells.now in
    let ranks = c.args.ranks.now in
    let codes = c.args.codes.now in
    let none = rw c.if-shows_text.false at c.shows_text.ensures.none in
    let back = ap (map number_cell) (c.as_slice.ensures.value ∙ c.in_ok-numbers.ensures) ∙ cells-bare cells none in
    let Of : List Value → Segment → Type 0 = λ some s. (order : List ℕ) → AreMovedRanks some ranks order codes → IsSegmentOf (map (cell_at some) order) s.length s.body s.least s.greatest s.nulls in
    IfOk-weaker c.ranked_numbers.result (Of (map number_cell c.as_slice.result.now)) (Of cells) (λ s is. subst (λ (some : List Value). Of some s) back is) c.ranked_numbers.ensures

pub returns-in_ok-numbers-clause-cells : goal.returns-in_ok-numbers-clause-cells
returns-in_ok-numbers-clause-cells c =
    let cells = map seen c.args.cells.now in
    let ranks = c.args.ranks.now in
    let codes = c.args.codes.now in
    let none = rw c.if-shows_text.false at c.shows_text.ensures.none in
    let back = ap (map number_cell) (c.as_slice.ensures.value ∙ c.in_ok-numbers.ensures) ∙ cells-bare cells none in
    let Of : List Value → Segment → Type 0 = λ some s. (order : List ℕ) → AreMovedRanks some ranks order codes → IsSegmentOf (map (cell_at some) order) s.length s.body s.least s.greatest s.nulls in
    let Wanted : Segment → Type 0 = λ s. (order : List ℕ) → AreMovedRanks cells ranks order codes → ((i : ℕ) → i < length (map (cell_at cells) order) → slice_get (map (cell_at cells) order) i ≡ Some (cell_in s.body i)) in
    IfOk-weaker c.ranked_numbers.result (Of (map number_cell c.as_slice.result.now)) Wanted
    (λ s is order moved. segment-cells (map (cell_at cells) order) s.length s.body s.least s.greatest s.nulls (subst (λ (some : List Value). Of some s) back is order moved)) c.ranked_numbers.ensures
