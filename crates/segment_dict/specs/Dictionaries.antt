-- Sorted dictionaries: the code of a cell is the place of its entry, after the code of NULL where there is one.
use Rattle.std.specs.Prelude.{◌≡◌, ◌+◌, ◌-◌, ◌<◌, ◌↔◌, ℕ, Bool, true, List, Option, None, Some, IsTrue, All, AllPairs, Any, Contains, length, slice_get, slice_index, nat_lt, if◌then◌else◌}
use Rattle.std.specs.Int.{from_bool}
use Rattle.std.specs.declared.cmp.Ordering.{Ordering}
use Rattle.std.specs.declared.cmp.Ordering.TheVariants.{Less}

-- each entry is less than all later ones
abbrev pub Ascends : {X : Type 0} → (X → X → Ordering) → List X → Type 0
Ascends cmp entries = AllPairs (λ x y. cmp x y ≡ Less) entries

-- the entries ascend and are exactly the cells that are not NULL, and the flag says whether a cell is NULL
pub record IsDictOf {X : Type 0} (cmp : X → X → Ordering) (cells : List (Option X)) (entries : List X) (nulls : Bool) : Type 0 where
  pub ascending : Ascends cmp entries
  pub same : (x : X) → Contains entries x ↔ Contains cells (Some x)
  pub null : IsTrue nulls ↔ Contains cells None

-- the cell of a code: NULL has code 0 where it has one, and the entries have the codes after it
abbrev pub cell_of : {X : Type 0} → List X → Bool → ℕ → Option X
cell_of entries nulls code = if nat_lt code (from_bool nulls) then None else slice_get entries (code - from_bool nulls)

-- how many codes there are
abbrev pub codes_of : {X : Type 0} → List X → Bool → ℕ
codes_of entries nulls = length entries + from_bool nulls

-- the dictionary has the cell
abbrev pub HasCell : {X : Type 0} → List X → Bool → Option X → Type 0
HasCell entries nulls None = IsTrue nulls
HasCell entries nulls (Some x) = Contains entries x

-- the code is one of the dictionary's, and the cell's
abbrev pub IsCodeOf : {X : Type 0} → List X → Bool → Option X → ℕ → Type 0
IsCodeOf entries nulls cell code = (code < codes_of entries nulls) × (cell_of entries nulls code ≡ cell)

-- the values of the cells that are not NULL, ascending, each once up to what `eq` counts as the same
pub record AreDistinct {X : Type 0} (cmp : X → X → Ordering) (eq : X → X → Bool) (cells : List (Option X)) (values : List X) : Type 0 where
  pub ascending : Ascends cmp values
  pub from_cells : All (λ x. Contains cells (Some x)) values
  pub all : (x : X) → Contains cells (Some x) → Any (λ y. eq x y ≡ true) values

-- the place of a value among the entries, none where it is not there
abbrev pub IsPlaceOf : {X : Type 0} → List X → X → Option ℕ → Type 0
IsPlaceOf entries x None = ¬ Contains entries x
IsPlaceOf entries x (Some place) = slice_get entries place ≡ Some x

-- each code is that of the cell in its place
abbrev pub AreCodesOf : {X : Type 0} → List X → Bool → List (Option X) → List ℕ → Type 0
AreCodesOf {X} entries nulls cells codes =
    (length codes ≡ length cells)
    × ((i : ℕ) (cell : Option X) → slice_get cells i ≡ Some cell → IsCodeOf entries nulls cell (slice_index codes i))
