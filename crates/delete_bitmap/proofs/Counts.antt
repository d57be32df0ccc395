-- How many of so many numbers, from one on, pass a test.
use Rattle.std.proofs.Common.{◌≡◌, ℕ, zero, suc, ◌+◌, ◌<◌, ◌≤◌, inl, inr, Bool, true, false, cond, count_by, refl, sym, ap, ◌∙◌, arith, add-one, add-zero}
use Rattle.std.specs.List.{range_with_len}
use Rattle.std.proofs.lemmas.Bool.{cases_lt}
use Rattle.std.proofs.lemmas.List.{map-id}
use Rattle.std.proofs.lemmas.List.FromFn.{sum_by-map-range_with_len_more}

abbrev counted : (ℕ → Bool) → ℕ → ℕ → ℕ
counted p a n = count_by p (range_with_len a n)

abbrev bit : Bool → ℕ
bit b = cond b 1 0

-- one number more
pub count-more : (p : ℕ → Bool) (a n : ℕ) → counted p a (n + 1) ≡ counted p a n + bit (p (a + n))
count-more p a n =
    ap (count_by p) (sym (map-id (range_with_len a (n + 1))))
    ∙ sum_by-map-range_with_len_more (λ x. bit (p x)) (λ x. x) a n (a + n) refl
    ∙ ap (λ xs. count_by p xs + bit (p (a + n))) (map-id (range_with_len a n))

one_more : (p : ℕ → Bool) (a n : ℕ) → counted p a (suc n) ≡ counted p a n + bit (p (a + n))
one_more p a n = ap (counted p a) (sym (add-one n)) ∙ count-more p a n

-- the first m of them, and then the others
pub count-join : (p : ℕ → Bool) (a m n : ℕ) → counted p a (m + n) ≡ counted p a m + counted p (a + m) n
count-join p a m zero = ap (counted p a) (add-zero m) ∙ sym (add-zero (counted p a m))
count-join p a m (suc n) =
    let before : counted p a (m + n) ≡ counted p a m + counted p (a + m) n = count-join p a m n in
    let last : m + suc n ≡ m + n + 1 = omega arith in
    let all : counted p a (m + suc n) ≡ counted p a (m + n) + bit (p (a + (m + n))) = ap (counted p a) last ∙ count-more p a (m + n) in
    let others : counted p (a + m) (suc n) ≡ counted p (a + m) n + bit (p (a + m + n)) = one_more p (a + m) n in
    let place : a + (m + n) ≡ a + m + n = omega arith in
    let same : bit (p (a + (m + n))) ≡ bit (p (a + m + n)) = ap (λ i. bit (p i)) place in
    omega (arith, before, all, others, same)

-- another test, that passes as many others from another number on
pub count-same : (p q : ℕ → Bool) (a b n : ℕ) → ((i : ℕ) → i < n → p (a + i) ≡ q (b + i)) → counted p a n ≡ counted q b n
count-same p q a b zero same = refl
count-same p q a b (suc n) same =
    one_more p a n
    ∙ ap (λ c. c + bit (p (a + n))) (count-same p q a b n (λ i below. same i (omega arith)))
    ∙ ap (λ t. counted q b n + bit t) (same n (omega arith))
    ∙ sym (one_more q b n)

-- where none passes there are none
pub count-none : (p : ℕ → Bool) (a n : ℕ) → ((i : ℕ) → i < n → p (a + i) ≡ false) → counted p a n ≡ 0
count-none p a zero none = refl
count-none p a (suc n) none =
    one_more p a n
    ∙ ap (λ c. c + bit (p (a + n))) (count-none p a n (λ i below. none i (omega arith)))
    ∙ ap (λ t. 0 + bit t) (none n (omega arith))

no_bit : (b : Bool) (n : ℕ) → n + bit b ≡ 0 → (n ≡ 0) × (b ≡ false)
no_bit true n e = absurd (omega (arith, e))
no_bit false n e = (omega (arith, e), refl)

-- and where there are none, none passes
pub none-counted : (p : ℕ → Bool) (a n : ℕ) → counted p a n ≡ 0 → (i : ℕ) → i < n → p (a + i) ≡ false
none-counted p a zero none i below = absurd (omega (arith, below))
none-counted p a (suc n) none i below =
    let both : (counted p a n ≡ 0) × (p (a + n) ≡ false) = no_bit (p (a + n)) (counted p a n) (sym (one_more p a n) ∙ none) in
    elim (cases_lt i n) [
      | inl less ↦ none-counted p a n both.0 i less
      | inr more ↦
          let last : i ≡ n = omega (arith, below, more) in
          ap (λ j. p (a + j)) last ∙ both.1
    ]

at_most_one : (b : Bool) → bit b ≤ 1
at_most_one true = omega arith
at_most_one false = omega arith

-- there are at most so many
pub count-most : (p : ℕ → Bool) (a n : ℕ) → counted p a n ≤ n
count-most p a zero = omega arith
count-most p a (suc n) = omega (arith, count-most p a n, one_more p a n, at_most_one (p (a + n)))
