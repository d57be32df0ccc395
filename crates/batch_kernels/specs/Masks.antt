-- Masks: a bool for each place, true where the place is chosen.
use Rattle.std.specs.Prelude.{◌≡◌, ◌⊎◌, ◌+◌, ◌<◌, ◌≤◌, ℕ, nat_le, Bool, not, ◌&&◌, List, length, slice_index_or, false, if◌then◌else◌}
use Rattle.batch_kernels.specs.declared.masks.Span.{Span}

-- whether two bools are the same
abbrev pub same_as : Bool → Bool → Bool
same_as inside b = if inside then b else not b

-- a code is one of a span: it is from the first on, and in the range from the least to the greatest, or outside of it
abbrev pub in_span : Span → ℕ → Bool
in_span span code = nat_le span.first code && same_as span.inside (nat_le span.least code && nat_le code span.greatest)

-- the mask keeps of its places exactly those that pass a test
abbrev pub IsNarrowed : (ℕ → Bool) → List Bool → List Bool → Type 0
IsNarrowed test old new =
    (length new ≡ length old)
    × ((i : ℕ) → i < length old → slice_index_or new i false ≡ (slice_index_or old i false && test i))

-- it keeps of `count` places from one on those that pass a test, which counts from 0, and the other places as they are
abbrev pub IsNarrowedAt : ℕ → ℕ → (ℕ → Bool) → List Bool → List Bool → Type 0
IsNarrowedAt from count test old new =
    (length new ≡ length old)
    × ((i : ℕ) → i < count → slice_index_or new (from + i) false ≡ (slice_index_or old (from + i) false && test i))
    × ((i : ℕ) → (i < from) ⊎ (from + count ≤ i) → slice_index_or new i false ≡ slice_index_or old i false)
