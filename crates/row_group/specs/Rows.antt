-- The rows of a group, and their order.
use Rattle.std.specs.Prelude.{◌≡◌, ◌≢◌, ℕ, nat_le, Bool, false, not, List, map, filter, AllPairs, Option, None, Some, if◌then◌else◌, IsPermutation}
use Rattle.std.specs.declared.cmp.Ordering.{Ordering}
use Rattle.std.specs.declared.cmp.Ordering.TheVariants.{Less, Greater}
use Rattle.std.specs.List.{range_with_len}
use Rattle.std.specs.Ordering.{nat_cmp, ordering_then, eq_by_cmp}
use Rattle.std.specs.Set.{distinct_count}
use Rattle.cs_types.specs.declared.Value.{Value}
use Rattle.cs_types.specs.declared.row.Version.{Version}
use Rattle.cs_types.specs.Rows.{cell_at, padded}
use Rattle.cs_types.specs.Values.{value_cmp}
use Rattle.row_group.specs.Orders.{by_rank}

-- a row of a group: its cells, one a column, and the number of the commit from which it is there
pub record PackedRow : Type 0 where
  pub cells : List Value
  pub begin : ℕ

-- the version ended at the floor or before
abbrev pub ended_by : ℕ → Option ℕ → Bool
ended_by floor None = false
ended_by floor (Some end) = nat_le end floor

-- a begin at most the floor becomes the floor
abbrev pub begin_above : ℕ → ℕ → ℕ
begin_above floor begin = if nat_le begin floor then floor else begin

abbrev pub raised : ℕ → Version → Version
raised floor v = record v { begin = begin_above floor v.begin }

-- the versions that a new group keeps: one whose end is at most the floor is left out, a begin at most the floor becomes
-- the floor, and all else stays
abbrev pub repacked : List Version → ℕ → List Version
repacked versions floor = map (raised floor) (filter (λ v. not (ended_by floor v.end)) versions)

-- cells in so many columns, NULL past their end, with a begin
abbrev pub padded_row : ℕ → List Value → ℕ → PackedRow
padded_row width cells begin = record { cells = padded width cells; begin = begin }

-- a version's cells in so many columns, with its begin
abbrev pub row_of : ℕ → Version → PackedRow
row_of width v = padded_row width v.row v.begin

-- the row whose begin is the floor where it is at most that
abbrev pub begun_above : ℕ → PackedRow → PackedRow
begun_above floor row = record row { begin = begin_above floor row.begin }

-- the cells of a column
abbrev pub column_of : List PackedRow → ℕ → List Value
column_of rows column = map (λ row. cell_at row.cells column) rows

-- how many distinct cells there are; NULL counts as one
abbrev pub distinct_cells : List Value → ℕ
distinct_cells cells = distinct_count (eq_by_cmp value_cmp) cells

-- columns by the number of their distinct cells, then by their place
abbrev pub column_cmp : List PackedRow → ℕ → ℕ → Ordering
column_cmp rows a b =
    ordering_then (nat_cmp (distinct_cells (column_of rows a)) (distinct_cells (column_of rows b))) (nat_cmp a b)

-- rows by their cells in the rank of the columns, NULL first, then by begin
abbrev pub row_cmp : List ℕ → PackedRow → PackedRow → Ordering
row_cmp rank x y =
    ordering_then (by_rank (λ column. value_cmp (cell_at x.cells column) (cell_at y.cells column)) rank) (nat_cmp x.begin y.begin)

-- the rows of so many columns are in the order of a group
pub record AreInOrder (width : ℕ) (rows : List PackedRow) : Type 0 where
  pub rank : List ℕ
  pub of_columns : IsPermutation (range_with_len 0 width) rank
  pub ranked : AllPairs (λ a b. column_cmp rows a b ≡ Less) rank
  pub ascending : AllPairs (λ x y. row_cmp rank x y ≢ Greater) rows
