-- The rows of a group that a statement reads.
use Rattle.std.specs.Prelude.{ℕ, Bool, true, false, List, length, map, filter, count_by, Option, None, Some, slice_index_or}
use Rattle.std.specs.List.{range_with_len}
use Rattle.cs_types.specs.declared.Value.{Value}
use Rattle.row_group.specs.Groups.{Group, row_at}

-- the cells of the row at a position
abbrev pub cells_at : Group → ℕ → List Value
cells_at group i = (row_at group i).cells

-- whether a position is shown: it is in the set, or there is no set
abbrev pub is_shown : Option (List Bool) → ℕ → Bool
is_shown None i = true
is_shown (Some set) i = slice_index_or set i false

-- how many of the n positions from one on are shown
abbrev pub shown_from : Option (List Bool) → ℕ → ℕ → ℕ
shown_from shown from n = count_by (is_shown shown) (range_with_len from n)

-- the rows at some positions
abbrev pub rows_at : Group → List ℕ → List (List Value)
rows_at group at = map (cells_at group) at

-- the rows at the positions that are shown
abbrev pub shown_rows : Group → Option (List Bool) → List (List Value)
shown_rows group shown = rows_at group (filter (is_shown shown) (range_with_len 0 (length group.rows)))
