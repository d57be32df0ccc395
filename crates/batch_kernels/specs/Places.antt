-- The places of a batch that a mask chooses, those of one key, and what is kept of the numbers at places.
use Rattle.std.specs.Prelude.{ℕ, ◌*◌, ◌==◌, min, max, ℤ, pos, neg_ℤ, ◌+ℤ◌, ◌≤ℤ◌, Bool, false, ◌&&◌, List, filter, fold, slice_index, slice_index_or}
use Rattle.std.specs.Option.{unwrap_or}
use Rattle.std.specs.List.{range_with_len}
use Rattle.batch_kernels.specs.declared.keys.Keys.{Keys}

-- the key number of a place of a batch
abbrev pub key_in : Keys → ℕ → ℕ
key_in keys i = unwrap_or keys.lone (slice_index keys.each i)

-- the places below n that the mask chooses
abbrev pub places : List Bool → ℕ → List ℕ
places mask n = filter (λ i. slice_index_or mask i false) (range_with_len 0 n)

-- those of them that have the key
abbrev pub places_with : List Bool → (ℕ → ℕ) → ℕ → ℕ → List ℕ
places_with mask key_of key n = filter (λ i. slice_index_or mask i false && key_of i == key) (range_with_len 0 n)

-- a sum, and the numbers at the places
abbrev pub sum_with : ℤ → List ℤ → List ℕ → ℤ
sum_with sum numbers at = fold (λ sum i. sum +ℤ slice_index_or numbers i (pos 0)) sum at

-- the least of a number and the codes at the places
abbrev pub least_with : ℕ → List ℕ → List ℕ → ℕ
least_with least codes at = fold (λ least i. min least (slice_index codes i)) least at

-- the greatest of a number and the codes at the places
abbrev pub greatest_with : ℕ → List ℕ → List ℕ → ℕ
greatest_with greatest codes at = fold (λ greatest i. max greatest (slice_index codes i)) greatest at

-- so many numbers of 64 bits may have the sum
abbrev pub IsSumOf : ℕ → ℤ → Type 0
IsSumOf count sum = (neg_ℤ (pos (count * 9223372036854775808)) ≤ℤ sum) × (sum ≤ℤ pos (count * 9223372036854775808))
