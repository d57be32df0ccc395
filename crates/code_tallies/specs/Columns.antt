-- A column of a group by the codes of its segment.
use Rattle.std.specs.Prelude.{◌≡◌, ◌<◌, ◌≤◌, ℕ, ◌==◌, min, not, nat_le, length, if◌then◌else◌}
use Rattle.cs_types.specs.declared.Value.{Value}
use Rattle.cs_types.specs.declared.Value.TheVariants.{Null}
use Rattle.cs_types.specs.Rows.{cell_at}
use Rattle.cs_model.specs.Items.{is_null}
use Rattle.column_segment.specs.Bodies.{code_in, cell_in, cell_of_code, IsKnown}
use Rattle.column_segment.specs.Segments.{IsSegmentOf}
use Rattle.row_group.specs.Groups.{Group}
use Rattle.row_group.specs.Rows.{column_of}
use Rattle.code_tallies.specs.declared.column.Column.{Column}
use Rattle.code_tallies.specs.Shown.{cells_at}

-- the code and the cell of a position
abbrev pub code_at : Column → ℕ → ℕ
code_at column i = code_in column.segment.now.body i

abbrev pub cell_there : Column → ℕ → Value
cell_there column i = cell_in column.segment.now.body i

-- the column of a group at a place: its cells are those of the rows, its codes are at most `last`, and those of cells that are
-- not NULL are the codes from `first` on
pub record IsColumnOf (group : Group) (place : ℕ) (column : Column) : Type 0 where
  pub counted : column.segment.now.length ≡ length group.rows
  pub kept : IsSegmentOf (column_of group.rows place) column.segment.now.length column.segment.now.body column.segment.now.least column.segment.now.greatest column.segment.now.nulls
  pub each : (i : ℕ) → i < length group.rows → cell_in column.segment.now.body i ≡ cell_at (cells_at group i) place
  pub most : (i : ℕ) → i < length group.rows → code_in column.segment.now.body i ≤ column.last
  pub known : (code : ℕ) → code ≤ column.last → IsKnown column.segment.now.body code
  pub present : (code : ℕ) → code ≤ column.last → not (is_null (cell_of_code column.segment.now.body code)) ≡ nat_le column.first code

-- the cell of a code, NULL where none was counted
abbrev pub shown_code : Column → ℕ → ℕ → Value
shown_code column count code = if count == 0 then Null else cell_of_code column.segment.now.body (min code column.last)
