-- Bits that are read from words, and what a write to a word does to them.
use Rattle.std.proofs.Common.{◌≡◌, ◌≢◌, ℕ, zero, suc, ◌+◌, ◌-◌, ◌*◌, ◌/◌, ◌%◌, ◌^◌, ◌<◌, ◌≤◌, inl, inr, Bool, true, false, not, eqb, max, map, List, [], length, get_or, replicate, set, refl, sym, ap, ◌∙◌, arith}
use Rattle.std.specs.Int.{bit_at, bit_not, w64}
use Rattle.std.specs.Prelude.{◌||◌, bit_and, bit_or}
use Rattle.std.proofs.lemmas.Bool.{cases_eq, cases_lt}
use Rattle.std.proofs.lemmas.List.{length-map, length-replicate, get_or-map, get_or-replicate, get_or_past, length-set, get_or-set_same, get_or-set_other, set-get_or}
use Rattle.std.proofs.lemmas.List.FromFn.{fill_by_all, length-map-range_with_len, get_or-map-range_with_len}
use Rattle.std.proofs.lemmas.Nat.Bits.{bit_at-lt, bit_at-zero, bit_at_not, bit_at_ones, bit_at_clear_same, bit_at_clear_other, bit_at_or, bit_at_set_same, bit_at_set_other}
use Rattle.delete_bitmap.specs.Bits.{bit_in, bits_in}

-- the bit of a word
abbrev is_one : ℕ → ℕ → Bool
is_one word i = eqb (bit_at word i) 1

pub length-bits_in : (n : ℕ) (words : List ℕ) → length (bits_in n words) ≡ n
length-bits_in n words = length-map-range_with_len (bit_in words) 0 n

pub get_or-bits_in : (n : ℕ) (words : List ℕ) (k : ℕ) → k < n → get_or (bits_in n words) k false ≡ bit_in words k
get_or-bits_in n words k below = get_or-map-range_with_len (bit_in words) 0 n k k false below (omega arith)

-- words that read alike have the same bits
pub bits_in-alike : (n : ℕ) (v w : List ℕ) → ((i : ℕ) → get_or v i 0 ≡ get_or w i 0) → bits_in n v ≡ bits_in n w
bits_in-alike n v w same =
    fill_by_all (bit_in w) (bits_in n v) n false (length-bits_in n v) (λ k below. get_or-bits_in n v k below ∙ ap (λ word. is_one word (k % 64)) (same (k / 64)))

-- without words no bit is set
pub bits_in-none : (n : ℕ) → bits_in n [] ≡ replicate n false
bits_in-none n =
    sym (fill_by_all (bit_in []) (replicate n false) n false (length-replicate n false)
    (λ k below. get_or-replicate n k false false below ∙ sym (ap (λ bit. eqb bit 1) (bit_at-zero (k % 64)))))

-- a position that lies so far after another in the same word
pub bit_in-word : (words : List ℕ) (p q j : ℕ) → q ≡ p + j → p % 64 + j < 64 → bit_in words q ≡ eqb (bit_at (get_or words (p / 64) 0) (p % 64 + j)) 1
bit_in-word words p q j e near =
    let word : q / 64 ≡ p / 64 = omega arith in
    let bit : q % 64 ≡ p % 64 + j = omega arith in
    ap (λ w. is_one (get_or words w 0) (q % 64)) word ∙ ap (λ b. is_one (get_or words (p / 64) 0) b) bit

-- where all words are of ones alone, each bit is set
pub bits_in-ones : (n count : ℕ) → n ≤ 64 * count → bits_in n (replicate count (2 ^ 64 - 1)) ≡ replicate n true
bits_in-ones n count room =
    sym (fill_by_all (bit_in (replicate count (2 ^ 64 - 1))) (replicate n true) n false (length-replicate n true)
    (λ k below. get_or-replicate n k true false below
    ∙ sym (ap (λ word. is_one word (k % 64)) (get_or-replicate count (k / 64) (2 ^ 64 - 1) 0 (omega arith)) ∙ ap (λ bit. eqb bit 1) (bit_at_ones 64 (k % 64) (omega arith)))))

-- the word of a position with the position's bit set
abbrev pub word_with : List ℕ → ℕ → ℕ
word_with words p = bit_or (get_or words (p / 64) 0) (1 * 2 ^ (p % 64) % 2 ^ 64)

module _ (words : List ℕ) (p : ℕ) (within : p / 64 < length words) where
  bit_in-set_same : bit_in (set words (p / 64) (word_with words p)) p ≡ true
  bit_in-set_same =
      ap (λ word. is_one word (p % 64)) (get_or-set_same words (p / 64) (word_with words p) 0 within)
      ∙ ap (λ bit. eqb bit 1) (bit_at_set_same w64 (get_or words (p / 64) 0) (p % 64) (omega arith))

  bit_in-set_other : (k : ℕ) → k ≢ p → bit_in (set words (p / 64) (word_with words p)) k ≡ bit_in words k
  bit_in-set_other k other = elim (cases_eq (k / 64) (p / 64)) [
    | inl same ↦
        ap (λ i. is_one (get_or (set words (p / 64) (word_with words p)) i 0) (k % 64)) same
        ∙ ap (λ word. is_one word (k % 64)) (get_or-set_same words (p / 64) (word_with words p) 0 within)
        ∙ ap (λ bit. eqb bit 1) (bit_at_set_other w64 (get_or words (p / 64) 0) (p % 64) (omega arith) (k % 64) (λ e. other (omega arith)))
        ∙ sym (ap (λ i. is_one (get_or words i 0) (k % 64)) same)
    | inr differs ↦ ap (λ word. is_one word (k % 64)) (get_or-set_other words (p / 64) (k / 64) (word_with words p) 0 differs)
  ]

  -- a write to the word sets the bit of the position alone
  pub bits_in-set : (n : ℕ) → p < n → bits_in n (set words (p / 64) (word_with words p)) ≡ set (bits_in n words) p true
  bits_in-set n below =
      sym (fill_by_all (bit_in new) (set (bits_in n words) p true) n false (length-set (bits_in n words) p true ∙ length-bits_in n words)
      (λ k k_below. elim (cases_eq k p) [
        | inl same ↦
            ap (λ i. get_or (set (bits_in n words) p true) i false) same
            ∙ get_or-set_same (bits_in n words) p true false (omega (arith, length-bits_in n words))
            ∙ sym (ap (bit_in new) same ∙ bit_in-set_same)
        | inr other ↦ get_or-set_other (bits_in n words) p k true false other ∙ get_or-bits_in n words k k_below ∙ sym (bit_in-set_other k other)
      ]))
    where
      new : List ℕ
      new = set words (p / 64) (word_with words p)

-- the word of a position with the position's bit cleared
abbrev pub word_without : List ℕ → ℕ → ℕ
word_without words p = bit_and (get_or words (p / 64) 0) (bit_not w64 (1 * 2 ^ (p % 64) % 2 ^ 64))

module _ (words : List ℕ) (p : ℕ) (within : p / 64 < length words) where
  bit_in-clear_same : bit_in (set words (p / 64) (word_without words p)) p ≡ false
  bit_in-clear_same =
      ap (λ word. is_one word (p % 64)) (get_or-set_same words (p / 64) (word_without words p) 0 within)
      ∙ ap (λ bit. eqb bit 1) (bit_at_clear_same w64 (get_or words (p / 64) 0) (p % 64) (omega arith))

  bit_in-clear_other : (k : ℕ) → k ≢ p → bit_in (set words (p / 64) (word_without words p)) k ≡ bit_in words k
  bit_in-clear_other k other = elim (cases_eq (k / 64) (p / 64)) [
    | inl same ↦
        ap (λ i. is_one (get_or (set words (p / 64) (word_without words p)) i 0) (k % 64)) same
        ∙ ap (λ word. is_one word (k % 64)) (get_or-set_same words (p / 64) (word_without words p) 0 within)
        ∙ ap (λ bit. eqb bit 1) (bit_at_clear_other w64 (get_or words (p / 64) 0) (p % 64) (omega arith) (k % 64) (omega arith) (λ e. other (omega arith)))
        ∙ sym (ap (λ i. is_one (get_or words i 0) (k % 64)) same)
    | inr differs ↦ ap (λ word. is_one word (k % 64)) (get_or-set_other words (p / 64) (k / 64) (word_without words p) 0 differs)
  ]

  -- a write to the word clears the bit of the position alone
  pub bits_in-clear : (n : ℕ) → p < n → bits_in n (set words (p / 64) (word_without words p)) ≡ set (bits_in n words) p false
  bits_in-clear n below =
      sym (fill_by_all (bit_in new) (set (bits_in n words) p false) n false (length-set (bits_in n words) p false ∙ length-bits_in n words)
      (λ k k_below. elim (cases_eq k p) [
        | inl same ↦
            ap (λ i. get_or (set (bits_in n words) p false) i false) same
            ∙ get_or-set_same (bits_in n words) p false false (omega (arith, length-bits_in n words))
            ∙ sym (ap (bit_in new) same ∙ bit_in-clear_same)
        | inr other ↦ get_or-set_other (bits_in n words) p k false false other ∙ get_or-bits_in n words k k_below ∙ sym (bit_in-clear_other k other)
      ]))
    where
      new : List ℕ
      new = set words (p / 64) (word_without words p)

-- past the last word no bit is set
bit_in-past : (words : List ℕ) (k : ℕ) → length words ≤ k / 64 → bit_in words k ≡ false
bit_in-past words k past = ap (λ word. is_one word (k % 64)) (get_or_past words (k / 64) 0 past) ∙ ap (λ bit. eqb bit 1) (bit_at-zero (k % 64))

-- to clear a bit past the last word changes nothing
pub bits_in-clear_past : (words : List ℕ) (p n : ℕ) → length words ≤ p / 64 → p < n → bits_in n words ≡ set (bits_in n words) p false
bits_in-clear_past words p n past below =
    sym (ap (set (bits_in n words) p) (sym (get_or-bits_in n words p below ∙ bit_in-past words p past)) ∙ set-get_or (bits_in n words) p false)

either_bit : (x y : ℕ) → x < 2 → y < 2 → eqb (max x y) 1 ≡ (eqb x 1 || eqb y 1)
either_bit zero zero _ _ = refl
either_bit zero (suc zero) _ _ = refl
either_bit zero (suc (suc y)) _ less = absurd (omega arith)
either_bit (suc zero) zero _ _ = refl
either_bit (suc zero) (suc zero) _ _ = refl
either_bit (suc zero) (suc (suc y)) _ less = absurd (omega arith)
either_bit (suc (suc x)) y less _ = absurd (omega arith)

-- a bit of two words joined is one of either
pub bit_in-joined : (new old others : List ℕ) (k : ℕ) → get_or new (k / 64) 0 ≡ bit_or (get_or old (k / 64) 0) (get_or others (k / 64) 0) → bit_in new k ≡ (bit_in old k || bit_in others k)
bit_in-joined new old others k joined =
    ap (λ word. is_one word (k % 64)) joined
    ∙ ap (λ bit. eqb bit 1) (bit_at_or (get_or old (k / 64) 0) (get_or others (k / 64) 0) (k % 64))
    ∙ either_bit (bit_at (get_or old (k / 64) 0) (k % 64)) (bit_at (get_or others (k / 64) 0) (k % 64)) (bit_at-lt (get_or old (k / 64) 0) (k % 64)) (bit_at-lt (get_or others (k / 64) 0) (k % 64))

-- and so is one of two sets joined
pub bits_in-joined : (n : ℕ) (new old others : List ℕ) → ((k : ℕ) → k < n → bit_in new k ≡ (bit_in old k || bit_in others k))
    → (p : ℕ) → get_or (bits_in n new) p false ≡ (get_or (bits_in n old) p false || get_or (bits_in n others) p false)
bits_in-joined n new old others joined p = elim (cases_lt p n) [
  | inl below ↦
      get_or-bits_in n new p below ∙ joined p below
      ∙ ap (λ (b : Bool). b || bit_in others p) (sym (get_or-bits_in n old p below)) ∙ ap (λ (b : Bool). get_or (bits_in n old) p false || b) (sym (get_or-bits_in n others p below))
  | inr past ↦
      none new past ∙ ap (λ (b : Bool). b || false) (sym (none old past)) ∙ ap (λ (b : Bool). get_or (bits_in n old) p false || b) (sym (none others past))
]
  where
    none : (words : List ℕ) → n ≤ p → get_or (bits_in n words) p false ≡ false
    none words past = get_or_past (bits_in n words) p false (omega (arith, length-bits_in n words))

-- where there is no other word nothing is joined
pub joined_none : (n : ℕ) (bits others : List Bool) → others ≡ bits_in n [] → (p : ℕ) → get_or bits p false ≡ (get_or bits p false || get_or others p false)
joined_none n bits others is p =
    sym (or_false (get_or bits p false)) ∙ ap (λ (b : Bool). get_or bits p false || b) (sym (ap (λ (bs : List Bool). get_or bs p false) is ∙ none))
  where
    or_false : (b : Bool) → (b || false) ≡ b
    or_false true = refl
    or_false false = refl

    none : get_or (bits_in n []) p false ≡ false
    none = elim (cases_lt p n) [
      | inl below ↦ get_or-bits_in n [] p below ∙ bit_in-past [] p (omega arith)
      | inr past ↦ get_or_past (bits_in n []) p false (omega (arith, length-bits_in n []))
    ]

turned_bit : (x : ℕ) → x < 2 → eqb (1 - x) 1 ≡ not (eqb x 1)
turned_bit zero _ = refl
turned_bit (suc zero) _ = refl
turned_bit (suc (suc x)) less = absurd (omega arith)

-- a bit of a word that is turned round
pub bit_in-turned : (new old : List ℕ) (k : ℕ) → get_or new (k / 64) 0 ≡ bit_not w64 (get_or old (k / 64) 0) → get_or old (k / 64) 0 < 2 ^ 64 → bit_in new k ≡ not (bit_in old k)
bit_in-turned new old k turned small =
    ap (λ word. is_one word (k % 64)) turned
    ∙ ap (λ bit. eqb bit 1) (bit_at_not w64 (get_or old (k / 64) 0) (k % 64) small (omega arith))
    ∙ turned_bit (bit_at (get_or old (k / 64) 0) (k % 64)) (bit_at-lt (get_or old (k / 64) 0) (k % 64))

-- where all bits are turned round, the set is the complement
pub bits_in-turned : (n : ℕ) (new old : List ℕ) → ((k : ℕ) → k < n → bit_in new k ≡ not (bit_in old k)) → bits_in n new ≡ map not (bits_in n old)
bits_in-turned n new old turned =
    sym (fill_by_all (bit_in new) (map not (bits_in n old)) n false (length-map (bits_in n old) not ∙ length-bits_in n old)
    (λ k below. get_or-map not (bits_in n old) k false false (omega (arith, length-bits_in n old, below)) ∙ ap not (get_or-bits_in n old k below) ∙ sym (turned k below)))
