-- A value for some sessions, by their numbers.
use Rattle.std.specs.Prelude.{ℕ, List, slice_get, Option, None, Some}

abbrev pub flat : {A : Type 0} → Option (Option A) → Option A
flat None = None
flat (Some found) = found

-- what a session has; there is nothing beyond the last seat
abbrev pub seat : {A : Type 0} → List (Option A) → ℕ → Option A
seat seats session = flat (slice_get seats session)
