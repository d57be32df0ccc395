-- How marks are kept: the set of positions that have ended, and a stamp for each end that is not plain.
use Rattle.std.specs.Prelude.{◌≡◌, ◌≢◌, ◌<◌, ◌≤◌, ℕ, Bool, true, false, nat_lt, List, [], ◌∷◌, length, map, fold, slice_index_or, slice_set, count_by, Option, Some, None, All, AllPairs, if◌then◌else◌}
use Rattle.delete_bitmap.specs.declared.MarkedEnd.{MarkedEnd}
use Rattle.delete_bitmap.specs.declared.MarkedEnd.TheVariants.{Plain, Stamped}

-- a stamp: a position and the number of a commit
abbrev pub Stamp : Type 0
Stamp = ℕ × ℕ

-- the end of a bit without a stamp
abbrev pub plain_end : Bool → Option MarkedEnd
plain_end true = Some Plain
plain_end false = None

-- the ends: each stamp is laid over the plain end of its position
abbrev pub ends_of : List Stamp → List Bool → List (Option MarkedEnd)
ends_of [] bits = map plain_end bits
ends_of (s ∷ rest) bits = slice_set (ends_of rest bits) s.0 (Some (Stamped s.1))

-- the stamp is above the floor
abbrev pub is_above : ℕ → Stamp → Bool
is_above floor s = nat_lt floor s.1

-- stamps stand in the order of positions
abbrev pub AreInOrder : List Stamp → Type 0
AreInOrder stamps = AllPairs (λ s t. s.0 < t.0) stamps

-- positions stand in order, each once
abbrev pub Ascend : List ℕ → Type 0
Ascend positions = AllPairs (λ a b. a < b) positions

-- no stamp is of the position
abbrev pub HasNone : ℕ → List Stamp → Type 0
HasNone p stamps = All (λ s. s.0 ≢ p) stamps

-- a stamp of each position, all with one commit
abbrev pub stamped : List ℕ → ℕ → List Stamp
stamped positions commit = map (λ p. (p, commit)) positions

-- the positions of stamps
abbrev pub positions_of : List Stamp → List ℕ
positions_of stamps = map (λ s. s.0) stamps

-- a set without the position of a stamp, where the stamp is above the floor
abbrev pub without_stamp : ℕ → List Bool → Stamp → List Bool
without_stamp floor bits s = if is_above floor s then slice_set bits s.0 false else bits

-- a set without the positions of the stamps above the floor
abbrev pub without_above : ℕ → List Stamp → List Bool → List Bool
without_above floor stamps bits = fold (without_stamp floor) bits stamps

-- what is kept true: stamps stand in order, at bits that are set, and the number of set bits is kept
pub record AreKept (bits : List Bool) (stamps : List Stamp) (count : ℕ) : Type 0 where
  pub in_order : AreInOrder stamps
  pub marked : All (λ s. slice_index_or bits s.0 false ≡ true) stamps
  pub counted : count ≡ count_by (λ bit. bit) bits

abbrev pub no_stamp : Stamp
no_stamp = (0, 0)

-- the stamp at this place is that of the position
pub record IsStampAt (stamps : List Stamp) (position place : ℕ) : Type 0 where
  pub there : place < length stamps
  pub is_of : (slice_index_or stamps place no_stamp).0 ≡ position

-- a stamp of the position would go to this place: those before it stand at smaller positions, the others at greater ones
pub record IsGapFor (stamps : List Stamp) (position place : ℕ) : Type 0 where
  pub within : place ≤ length stamps
  pub smaller_before : (k : ℕ) → k < place → (slice_index_or stamps k no_stamp).0 < position
  pub greater_after : (k : ℕ) → place ≤ k → k < length stamps → position < (slice_index_or stamps k no_stamp).0
