-- Bits in words of 64 bits, the lowest bit of the first word first.
use Rattle.std.specs.Prelude.{ℕ, ◌<◌, ◌≤◌, ◌*◌, ◌/◌, ◌%◌, ◌==◌, Bool, true, List, length, map, fold, slice_index, slice_set}
use Rattle.std.specs.Int.{bit_at}
use Rattle.std.specs.List.{range_with_len}

-- whether the bit of a position is set; past the last word none is
abbrev pub bit_in : List ℕ → ℕ → Bool
bit_in words position = bit_at (slice_index words (position / 64)) (position % 64) == 1

-- the first n bits of the words
abbrev pub bits_in : ℕ → List ℕ → List Bool
bits_in n words = map (bit_in words) (range_with_len 0 n)

-- there is no word, or the words have at least n bits
abbrev pub IsCovered : ℕ → List ℕ → Type 0
IsCovered n words = 0 < length words → n ≤ 64 * length words

-- the set with all these positions
abbrev pub with_all : List ℕ → List Bool → List Bool
with_all positions bits = fold (λ set p. slice_set set p true) bits positions
