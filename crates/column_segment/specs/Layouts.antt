-- The two layouts that keep a column's codes: side by side in words, and in runs.
use Rattle.std.specs.Prelude.{◌≡◌, ◌+◌, ◌<◌, ◌≤◌, ◌^◌, ℕ, Bool, true, false, List, zero, suc, All, count_by, slice_index, slice_get, length, ◌↔◌, nat_le, if◌then◌else◌, ◌==◌}
use Rattle.bit_pack.specs.Codes.{packed}

-- the least width that has room for each code
abbrev pub IsLeastWidth : List ℕ → ℕ → Type 0
IsLeastWidth codes width =
    All (λ code. code < 2 ^ width) codes × ((other : ℕ) → All (λ code. code < 2 ^ other) codes → width ≤ other)

-- the codes at their least width, side by side in words
abbrev pub ArePacked : List ℕ → ℕ → List ℕ → Type 0
ArePacked codes width words = (width ≤ 64) × IsLeastWidth codes width × (words ≡ packed width codes)

-- the code of the run that holds a place: as many runs stand before it as end at the place or before
abbrev pub code_in_runs : List ℕ → List ℕ → ℕ → ℕ
code_in_runs codes ends i = slice_index codes (count_by (λ end. nat_le end i) ends)

-- how many maximal runs of equal codes begin at the first n places
abbrev pub begins_run : List ℕ → ℕ → Bool
begins_run codes zero = true
begins_run codes (suc i) = if slice_index codes i == slice_index codes (suc i) then false else true

abbrev pub runs_below : List ℕ → ℕ → ℕ
runs_below codes zero = 0
runs_below codes (suc n) = runs_below codes n + (if begins_run codes n then 1 else 0)

-- neighbours have equal codes exactly where they are equal cells
abbrev pub MatchNeighbours : {X : Type 0} → List X → List ℕ → Type 0
MatchNeighbours cells codes =
    (length codes ≡ length cells)
    × ((i : ℕ) → i + 1 < length cells → (slice_index codes i ≡ slice_index codes (i + 1)) ↔ (slice_get cells i ≡ slice_get cells (i + 1)))
