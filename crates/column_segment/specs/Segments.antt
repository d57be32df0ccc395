-- The segment of some cells.
use Rattle.std.specs.Prelude.{◌≡◌, ◌+◌, ◌-◌, ◌<◌, ◌↔◌, ℕ, Bool, IsTrue, List, length, Contains, Some, slice_get, min}
use Rattle.cs_types.specs.declared.Value.{Value}
use Rattle.cs_types.specs.declared.Value.TheVariants.{Null}
use Rattle.column_segment.specs.declared.body.SegmentBody.{SegmentBody}
use Rattle.column_segment.specs.Cells.{IsLeastCell, IsGreatestCell}
use Rattle.column_segment.specs.Bodies.{IsBest, cell_in}

-- the parts of a segment are those of the cells
pub record IsSegmentOf (cells : List Value) (count : ℕ) (body : SegmentBody) (least greatest : Value) (nulls : Bool) : Type 0 where
  pub counted : count ≡ length cells
  pub best : IsBest cells body
  pub least_is : IsLeastCell cells least
  pub greatest_is : IsGreatestCell cells greatest
  pub nulls_is : IsTrue nulls ↔ Contains cells Null

-- a batch has the cells of the body from place `from` on: 1,024 of them, or those that are left of `count`
abbrev pub HasCells : SegmentBody → ℕ → ℕ → List Value → Type 0
HasCells body count from batch =
    (length batch ≡ min 1024 (count - from))
    × ((i : ℕ) → i < length batch → slice_get batch i ≡ Some (cell_in body (from + i)))
