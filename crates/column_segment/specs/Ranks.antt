-- The ranks of a column's cells: numbers that stand to each other as the cells do, with none left out.
use Rattle.std.specs.Prelude.{◌≡◌, ◌<◌, ℕ, List, [], All, length, slice_index, slice_index_or, IsPermutation}
use Rattle.std.specs.List.{range_with_len}
use Rattle.std.specs.Ordering.{nat_cmp}
use Rattle.cs_types.specs.declared.Value.{Value}
use Rattle.cs_types.specs.declared.Value.TheVariants.{Null, Number, Text}
use Rattle.cs_types.specs.Values.{value_cmp}

-- each number below a count is one of the ranks, and no other number is
pub record AreAllBelow (ranks : List ℕ) (count : ℕ) : Type 0 where
  pub below : All (λ rank. rank < count) ranks
  pub taken : (k : ℕ) → k < count → (i : ℕ) × (i < length ranks) × (slice_index ranks i ≡ k)

-- the ranks of the cells
pub record AreCellRanks (cells : List Value) (ranks : List ℕ) (count : ℕ) : Type 0 where
  pub counted : length ranks ≡ length cells
  pub agree : (i j : ℕ) → i < length cells → j < length cells → nat_cmp (slice_index ranks i) (slice_index ranks j) ≡ value_cmp (slice_index_or cells i Null) (slice_index_or cells j Null)
  pub dense : AreAllBelow ranks count

-- a place for each rank, at which it stands
abbrev pub AreRankPlaces : List ℕ → ℕ → List ℕ → Type 0
AreRankPlaces ranks count places =
    (length places ≡ count)
    × ((k : ℕ) → k < count → (slice_index places k < length ranks) × (slice_index ranks (slice_index places k) ≡ k))

-- the text that a cell is, and the empty one for a cell that is none
abbrev pub text_in : Value → List ℕ
text_in Null = []
text_in (Number n) = []
text_in (Text t) = t

-- the value at each of some places
abbrev pub ArePicked : {X : Type 0} → List X → List ℕ → List X → Type 0
ArePicked {X} values order all =
    (length all ≡ length order)
    × ((i : ℕ) (d : X) → i < length order → slice_index_or all i d ≡ slice_index_or values (slice_index order i) d)

-- the ranks of some cells in an order that has each cell once
pub record AreMovedRanks (cells : List Value) (ranks order codes : List ℕ) : Type 0 where
  pub some : 0 < length order
  pub all : IsPermutation (range_with_len 0 (length cells)) order
  pub picked : ArePicked ranks order codes
