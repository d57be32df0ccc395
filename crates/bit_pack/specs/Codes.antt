-- Codes of some width, side by side in words of 64 bits.
use Rattle.std.specs.Prelude.{◌≡◌, ◌<◌, ◌≤◌, zero, suc, length, ◌⊎◌, slice_index, take, ℕ, ◌+◌, ◌*◌, ◌/◌, ◌%◌, ◌^◌, List, [], ◌∷◌, refl}

-- the number whose digits in base 2 ^ width these are, the lowest first
abbrev pub number_of : ℕ → List ℕ → ℕ
number_of width [] = 0
number_of width (digit ∷ digits) = digit + 2 ^ width * number_of width digits

-- the lowest n words of a number: its digits in base 2 ^ 64, the lowest first
abbrev pub words_of : ℕ → ℕ → List ℕ
words_of zero number = []
words_of (suc n) number = number % 2 ^ 64 ∷ words_of n (number / 2 ^ 64)

-- code i of some words: bits i * width to i * width + width - 1 of the long number that the words are
abbrev pub code_at : ℕ → List ℕ → ℕ → ℕ
code_at width words i = number_of 64 words / 2 ^ (i * width) % 2 ^ width

-- the words of some codes: the long number that they are, in as few words as have room for all their bits
abbrev pub packed : ℕ → List ℕ → List ℕ
packed width codes = words_of ((length codes * width + 63) / 64) (number_of width codes)

-- the places from `at` on have the n codes from code `first` on, and the other places are as before
abbrev pub HasCodes : ℕ → List ℕ → ℕ → ℕ → ℕ → List ℕ → List ℕ → Type 0
HasCodes width words first at n old new =
    ((i : ℕ) → i < n → slice_index new (at + i) ≡ code_at width words (first + i))
    × ((i : ℕ) → (i < at) ⊎ (at + n ≤ i) → slice_index new i ≡ slice_index old i)

-- four codes of two bits, 1, 0, 3 and 2, are the word 1 + 3 * 16 + 2 * 64
abbrev pub four_codes : packed 2 (1 ∷ 0 ∷ 3 ∷ 2 ∷ []) ≡ 177 ∷ []
four_codes = refl

-- three codes of forty bits: the second stands in both words
abbrev pub across_words : packed 40 (5 ∷ 1099511627775 ∷ 6 ∷ []) ≡ 18446742974197923845 ∷ 458751 ∷ []
across_words = refl

-- the first n codes are written: the words that they fill stand first, and their last bits in a word of their own
abbrev pub IsWritten : ℕ → List ℕ → ℕ → List ℕ → ℕ → Type 0
IsWritten width codes n words last =
    (take (n * width / 64) words ≡ words_of (n * width / 64) (number_of width (take n codes)))
    × (last ≡ number_of width (take n codes) / 2 ^ (64 * (n * width / 64)))
