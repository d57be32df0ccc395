-- Runs of equal codes: a code for each run, and the place after its last cell.
use Rattle.std.specs.Prelude.{◌≡◌, ◌≢◌, ◌+◌, ◌<◌, ◌≤◌, ℕ, List, ◌∷◌, length, slice_index}

-- where run r begins: at place 0, or where the run before it ends
abbrev pub start_of : List ℕ → ℕ → ℕ
start_of ends r = slice_index (0 ∷ ends) r

-- how many places the runs cover: the end of the last one, or 0
abbrev pub covered : List ℕ → ℕ
covered ends = start_of ends (length ends)

-- each run has a code and an end and at least one place, and two neighbours have different codes
pub record AreRuns (codes ends : List ℕ) : Type 0 where
  pub paired : length codes ≡ length ends
  pub filled : (r : ℕ) → r < length ends → start_of ends r < slice_index ends r
  pub maximal : (r : ℕ) → r + 1 < length ends → slice_index codes r ≢ slice_index codes (r + 1)

-- the runs, laid side by side, are the list `all` of codes
pub record AreRunsOf (all codes ends : List ℕ) : Type 0 where
  pub in_order : AreRuns codes ends
  pub whole : covered ends ≡ length all
  pub same : (r i : ℕ) → r < length ends → start_of ends r ≤ i → i < slice_index ends r → slice_index all i ≡ slice_index codes r

-- one of the runs has this code and this end, and the place lies in it
pub record IsRun (codes ends : List ℕ) (i code end : ℕ) : Type 0 where
  pub run : ℕ
  pub there : run < length ends
  pub code_is : code ≡ slice_index codes run
  pub end_is : end ≡ slice_index ends run
  pub begun : start_of ends run ≤ i
  pub not_ended : i < end

-- place i of the list has this code, as all places up to `end`, where the list ends or another code stands
pub record IsRunAt (all : List ℕ) (i code end : ℕ) : Type 0 where
  pub below : i < end
  pub within : end ≤ length all
  pub same : (j : ℕ) → i ≤ j → j < end → slice_index all j ≡ code
  pub other : end < length all → slice_index all end ≢ code
