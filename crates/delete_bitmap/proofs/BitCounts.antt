-- How many bits of a word are set.
use Rattle.std.proofs.Common.{◌≡◌, ℕ, zero, suc, ◌+◌, ◌-◌, ◌/◌, ◌%◌, ◌^◌, ◌<◌, ◌≤◌, eqb, cond, count_by, sym, ap, ◌∙◌, arith, add-one, zero-add}
use Rattle.std.specs.Prelude.{bit_and, count_ones}
use Rattle.std.specs.Int.{bit_at}
use Rattle.std.specs.Int.Count.{ones-ones}
use Rattle.std.specs.List.{range_with_len}
use Rattle.std.proofs.lemmas.Nat.{and_mask, mod-pow-add, mod_below, ones-le, ones_cat, pow_pos, shr-shr}
use Rattle.std.proofs.lemmas.Nat.Bits.{bit_at-lt, ones_shr}
use Rattle.delete_bitmap.proofs.Counts.{count-more, count-same}

one_bit : (bit : ℕ) → bit < 2 → count_ones bit ≡ cond (eqb bit 1) 1 0
one_bit zero below = ones-ones 0
one_bit (suc zero) below = ones-ones 1
one_bit (suc (suc bit)) below = absurd (omega (arith, below))

-- in the lowest n bits
ones_below : (word n : ℕ) → count_ones (word % 2 ^ n) ≡ count_by (λ i. eqb (bit_at word i) 1) (range_with_len 0 n)
ones_below word zero =
    let few : count_ones (word % 2 ^ 0) ≤ 0 = ones-le 0 (word % 2 ^ 0) (mod_below word (2 ^ 0) (pow_pos 0)) in
    omega (arith, few)
ones_below word (suc n) =
    let p = λ (i : ℕ). eqb (bit_at word i) 1 in
    let last : suc n ≡ 1 + n = omega arith in
    ap (λ m. count_ones (word % 2 ^ m)) last
    ∙ ap count_ones (mod-pow-add word 1 n)
    ∙ ones_cat n (bit_at word n) (word % 2 ^ n) (mod_below word (2 ^ n) (pow_pos n))
    ∙ ap (λ m. m + count_ones (word % 2 ^ n)) (one_bit (bit_at word n) (bit_at-lt word n))
    ∙ ap (λ m. cond (p n) 1 0 + m) (ones_below word n)
    ∙ turned (cond (p n) 1 0) (count_by p (range_with_len 0 n))
    ∙ ap (λ i. count_by p (range_with_len 0 n) + cond (p i) 1 0) (sym (zero-add n))
    ∙ sym (count-more p 0 n)
    ∙ ap (λ m. count_by p (range_with_len 0 m)) (add-one n)
  where
    turned : (a b : ℕ) → a + b ≡ b + a
    turned a b = omega arith

-- in so many bits from one on
pub ones-in : (word bit count : ℕ) → count ≤ 64 → count_ones (bit_and (word / 2 ^ bit) ((2 ^ 64 - 1) / 2 ^ (64 - count))) ≡ count_by (λ i. eqb (bit_at word i) 1) (range_with_len bit count)
ones-in word bit count within =
    let back : 64 - (64 - count) ≡ count = omega arith in
    ap (λ low. count_ones (bit_and (word / 2 ^ bit) low)) (ones_shr 64 (64 - count) (omega arith) ∙ ap (λ n. 2 ^ n - 1) back)
    ∙ ap count_ones (and_mask (word / 2 ^ bit) count)
    ∙ ones_below (word / 2 ^ bit) count
    ∙ count-same (λ i. eqb (bit_at (word / 2 ^ bit) i) 1) (λ i. eqb (bit_at word i) 1) 0 bit count
    (λ i below. ap (λ n. eqb (n % 2) 1) (ap (λ j. word / 2 ^ bit / 2 ^ j) (zero-add i) ∙ shr-shr word bit i))
