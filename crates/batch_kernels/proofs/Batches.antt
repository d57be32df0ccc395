-- One batch more: what is kept of the positions below a batch, and of those in it.
use Rattle.std.proofs.Common.{◌≡◌, ℕ, zero, suc, ◌+◌, ◌<◌, Bool, ◌&&◌, cond, length, sym, ◌∙◌, ap, arith, fold, filter, add-one, add-zero}
use Rattle.std.specs.Prelude.{◌==◌}
use Rattle.std.specs.List.{range_with_len}
use Rattle.batch_kernels.proofs.OneMore.{fold-more, count-more}

pub fold-batch : {A : Type 0} (P p : ℕ → Bool) (step g : A → ℕ → A) (a : A) (from n : ℕ) → ((i : ℕ) → i < n → p i ≡ P (from + i)) → ((i : ℕ) (b : A) → i < n → g b i ≡ step b (from + i)) →
    fold step a (filter P (range_with_len 0 (from + n))) ≡ fold g (fold step a (filter P (range_with_len 0 from))) (filter p (range_with_len 0 n))
fold-batch P p step g a from zero same steps = ap (λ m. fold step a (filter P (range_with_len 0 m))) (add-zero from)
fold-batch P p step g a from (suc n) same steps =
    let all = fold step a (filter P (range_with_len 0 (from + n))) in
    let rest = fold g (fold step a (filter P (range_with_len 0 from))) (filter p (range_with_len 0 n)) in
    let before : all ≡ rest = fold-batch P p step g a from n (λ i below. same i (omega arith)) (λ i b below. steps i b (omega arith)) in
    let last : from + suc n ≡ from + n + 1 = omega arith in
    ap (λ m. fold step a (filter P (range_with_len 0 m))) last
    ∙ fold-more P step a (from + n)
    ∙ ap (λ b. cond b (step all (from + n)) all) (sym (same n (omega arith)))
    ∙ ap (λ x. cond (p n) x all) (sym (steps n all (omega arith)))
    ∙ ap (λ x. cond (p n) (g x n) x) before
    ∙ sym (fold-more p g (fold step a (filter P (range_with_len 0 from))) n)
    ∙ ap (λ m. fold g (fold step a (filter P (range_with_len 0 from))) (filter p (range_with_len 0 m))) (add-one n)

abbrev bit : Bool → ℕ
bit b = cond b 1 0

pub count-batch : (P p : ℕ → Bool) (from n : ℕ) → ((i : ℕ) → i < n → p i ≡ P (from + i)) →
    length (filter P (range_with_len 0 (from + n))) ≡ length (filter P (range_with_len 0 from)) + length (filter p (range_with_len 0 n))
count-batch P p from zero same =
    ap (λ m. length (filter P (range_with_len 0 m))) (add-zero from) ∙ sym (add-zero (length (filter P (range_with_len 0 from))))
count-batch P p from (suc n) same =
    let before : length (filter P (range_with_len 0 (from + n))) ≡ length (filter P (range_with_len 0 from)) + length (filter p (range_with_len 0 n))
    = count-batch P p from n (λ i below. same i (omega arith)) in
    let last : from + suc n ≡ from + n + 1 = omega arith in
    let all : length (filter P (range_with_len 0 (from + n + 1))) ≡ length (filter P (range_with_len 0 (from + n))) + cond (P (from + n)) 1 0 = count-more P (from + n) in
    let some : length (filter p (range_with_len 0 (n + 1))) ≡ length (filter p (range_with_len 0 n)) + cond (p n) 1 0 = count-more p n in
    let tests : bit (p n) ≡ bit (P (from + n)) = ap bit (same n (omega arith)) in
    let left : length (filter P (range_with_len 0 (from + suc n))) ≡ length (filter P (range_with_len 0 (from + n + 1))) = ap (λ m. length (filter P (range_with_len 0 m))) last in
    let right : length (filter p (range_with_len 0 (suc n))) ≡ length (filter p (range_with_len 0 (n + 1))) = ap (λ m. length (filter p (range_with_len 0 m))) (sym (add-one n)) in
    omega (arith, before, all, some, tests, left, right)

-- two places are chosen and have a key alike
pub place-same : (m n : Bool) (x y k : ℕ) → m ≡ n → x ≡ y → (m && x == k) ≡ (n && y == k)
place-same m n x y k e f = ap (λ b. b && x == k) e ∙ ap (λ z. n && z == k) f
