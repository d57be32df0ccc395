-- Rows on the way to a group: columns of cells, and the rows that they show.
use Rattle.std.specs.Prelude.{◌≡◌, ◌≢◌, ◌<◌, ◌++◌, ℕ, ℤ, List, [], Option, length, map, take, slice_index, slice_index_or, All, AllPairs, IsPermutation}
use Rattle.std.specs.List.{range_with_len}
use Rattle.std.specs.declared.alloc.Global.{Global}
use Rattle.std.specs.declared.vec.Vec.{Vec}
use Rattle.cs_types.specs.declared.Value.{Value}
use Rattle.cs_types.specs.Rows.{cell_at, number_cell}
use Rattle.row_group.specs.Rows.{PackedRow, padded_row}
use Rattle.row_group.specs.Groups.{Group, row_at}

-- so many columns, and the rows in the order in which they were added
pub record Packing : Type 0 where
  pub width : ℕ
  pub rows : List PackedRow

-- the row at a place of columns and begins
abbrev pub source_row : List (List Value) → List ℕ → ℕ → PackedRow
source_row columns begins i = record { cells = map (λ column. cell_at column i) columns; begin = slice_index begins i }

-- the rows of columns and begins
abbrev pub source_rows : List (List Value) → List ℕ → List PackedRow
source_rows columns begins = map (source_row columns begins) (range_with_len 0 (length begins))

-- the cells of columns of numbers and NULLs
abbrev pub numbered : List (Vec (Option ℤ) Global) → List (List Value)
numbered columns = map (λ (column : Vec (Option ℤ) Global). map number_cell column.items) columns

-- each column has so many cells
abbrev pub AreEven : List (List Value) → ℕ → Type 0
AreEven columns count = All (λ column. length column ≡ count) columns

-- each column has some cells more at its end
pub record HaveMore (before : List (List Value)) (more : ℕ → List Value) (after : List (List Value)) : Type 0 where
  pub counted : length after ≡ length before
  pub cells : (c : ℕ) → c < length before → slice_index_or after c [] ≡ slice_index_or before c [] ++ more c

-- each column begins as it was
pub record BeginAs (before after : List (List Value)) : Type 0 where
  pub counted : length after ≡ length before
  pub cells : (c : ℕ) → c < length before → take (length (slice_index_or before c [])) (slice_index_or after c []) ≡ slice_index_or before c []

-- each column has its first cells alone, so many
pub record AreCut (count : ℕ) (before after : List (List Value)) : Type 0 where
  pub counted : length after ≡ length before
  pub cells : (c : ℕ) → c < length before → slice_index_or after c [] ≡ take count (slice_index_or before c [])

-- the cells of a column at some positions of a group
abbrev pub cells_at : Group → List ℕ → ℕ → List Value
cells_at group positions column = map (λ position. cell_at (row_at group position).cells column) positions

-- the row at a position of a group in so many columns, NULL in those that the group has not
abbrev pub padded_at : ℕ → Group → ℕ → PackedRow
padded_at width group position = padded_row width (row_at group position).cells (row_at group position).begin

-- where each number up to a count stands in an order of them
abbrev pub ArePlacesIn : List ℕ → List ℕ → Type 0
ArePlacesIn order places =
    (length places ≡ length order)
    × ((i : ℕ) → i < length order → (slice_index places i < length order) × (slice_index order (slice_index places i) ≡ i))

-- where numbers stand in an order: each of these places that is below the count is that of its number, and the others tell nothing
abbrev pub AreFoundIn : List ℕ → List ℕ → Type 0
AreFoundIn order places =
    (length places ≡ length order)
    × ((i : ℕ) → i < length order → slice_index places i < length order → slice_index order (slice_index places i) ≡ i)

-- the rows of a group are those at the places of an order, which has each place once
pub record IsOrderedBy (rows : List PackedRow) (order : List ℕ) (group : Group) : Type 0 where
  pub all : IsPermutation (range_with_len 0 (length rows)) order
  pub by_place : group.rows ≡ map (λ i. slice_index_or rows i (record { cells = []; begin = 0 })) order

-- where each of some rows stands in a group: no two at one position
pub record StandAt (rows : List PackedRow) (group : Group) (positions : List ℕ) : Type 0 where
  pub own : map (row_at group) positions ≡ rows
  pub within : All (λ position. position < length group.rows) positions
  pub apart : AllPairs (λ a b. a ≢ b) positions
