-- A piece more: rows side by side that have one key number, and one code in a column.
use Rattle.std.proofs.Common.{◌≡◌, ℕ, zero, suc, ◌+◌, ◌<◌, ℤ, pos, ◌+ℤ◌, ◌*ℤ◌, List, [], ◌∷◌, Bool, true, false, ◌&&◌, cond, length, filter, fold, count_by, min, max, refl, sym, ◌∙◌, ap, subst, arith, add-zero, zero-add, FitsSigned, w64}
use Rattle.std.specs.Prelude.{slice_index_or, slice_set, ◌==◌}
use Rattle.std.specs.List.{range_with_len}
use Rattle.std.proofs.lemmas.Bool.{eqb-true, eqb-false}
use Rattle.std.proofs.lemmas.Grind.{get_or-set_at}
use Rattle.std.proofs.lemmas.Int.{ints}
use Rattle.std.proofs.lemmas.List.Sums.{length-filter}
use Rattle.std.proofs.Math.Bool.{and-true, and-false}
use Rattle.std.proofs.lemmas.List.{get_or-set_other}
use Rattle.std.proofs.Math.IntN.{+ℤ_assoc, +ℤ_idl, +ℤ_idr, *ℤ-zero, *ℤ_comm, suc_ℤ-*ℤ}
use Rattle.batch_kernels.specs.Places.{IsSumOf}
use Rattle.batch_kernels.proofs.Batches.{fold-batch, count-batch}
use Rattle.batch_kernels.proofs.OneMore.{IsSumOf-same}
use Rattle.delete_bitmap.proofs.Counts.{count-none, count-same}
use Rattle.code_tallies.specs.Tables.{positions}
use Rattle.code_tallies.proofs.Buckets.{same-below}

-- a step so many times
abbrev pub again : {A : Type 0} → (A → A) → A → ℕ → A
again g a zero = a
again g a (suc n) = g (again g a n)

again_first : {A : Type 0} (g : A → A) (a : A) (n : ℕ) → again g (g a) n ≡ g (again g a n)
again_first g a zero = refl
again_first g a (suc n) = ap g (again_first g a n)

-- a fold by one step
fold_again : {A : Type 0} (g : A → A) (a : A) (xs : List ℕ) → fold (λ x _. g x) a xs ≡ again g a (length xs)
fold_again g a [] = refl
fold_again g a (x ∷ xs) = fold_again g (g a) xs ∙ again_first g a (length xs)

again_where : {A : Type 0} (g : A → A) (a : A) (b : Bool) (n : ℕ) → again g a (cond b n 0) ≡ cond b (again g a n) a
again_where g a true n = refl
again_where g a false n = refl

kept_where : (p : ℕ → Bool) (b : Bool) (n : ℕ) → length (filter (λ i. p i && b) (range_with_len 0 n)) ≡ cond b (length (filter p (range_with_len 0 n))) 0
kept_where p true n = ap length (same-below (λ i. p i && true) p n (λ i below. and-true (p i)))
kept_where p false n = length-filter (λ i. p i && false) (range_with_len 0 n) ∙ count-none (λ i. p i && false) 0 n (λ i below. and-false (p (0 + i)))

-- n positions from one on that have one key number, of which so many pass a test
module _ (test : ℕ → Bool) (key : ℕ → ℕ) (from n j rows : ℕ) (counted : rows ≡ count_by test (range_with_len from n)) (keyed : (i : ℕ) → i < n → key (from + i) ≡ j) (k : ℕ) where
  passes : (i : ℕ) → i < n → (test (from + i) && j == k) ≡ (test (from + i) && key (from + i) == k)
  passes i below = ap (λ x. test (from + i) && x == k) (sym (keyed i below))

  here : length (filter (λ i. test (from + i) && j == k) (range_with_len 0 n)) ≡ cond (j == k) rows 0
  here =
      kept_where (λ i. test (from + i)) (j == k) n
      ∙ ap (λ m. cond (j == k) m 0)
      (length-filter (λ i. test (from + i)) (range_with_len 0 n)
      ∙ count-same (λ i. test (from + i)) test 0 from n (λ i below. ap (λ m. test (from + m)) (zero-add i))
      ∙ sym counted)

  pub piece-fold : {A : Type 0} (step : A → ℕ → A) (g : A → A) (a : A) → ((i : ℕ) (x : A) → i < n → g x ≡ step x (from + i)) →
      fold step a (positions test key k (from + n)) ≡ cond (j == k) (again g (fold step a (positions test key k from)) rows) (fold step a (positions test key k from))
  piece-fold step g a steps =
      fold-batch (λ i. test i && key i == k) (λ i. test (from + i) && j == k) step (λ x _. g x) a from n passes steps
      ∙ fold_again g (fold step a (positions test key k from)) (filter (λ i. test (from + i) && j == k) (range_with_len 0 n))
      ∙ ap (again g (fold step a (positions test key k from))) here
      ∙ again_where g (fold step a (positions test key k from)) (j == k) rows

  pub piece-count : length (positions test key k (from + n)) ≡ length (positions test key k from) + cond (j == k) rows 0
  piece-count =
      count-batch (λ i. test i && key i == k) (λ i. test (from + i) && j == k) from n passes
      ∙ ap (λ m. length (positions test key k from) + m) here

-- an entry written
pub entry-written : {A : Type 0} (old : List A) (d v : A) (f : A → A) (j k : ℕ) → j < length old → v ≡ f (slice_index_or old j d) →
    slice_index_or (slice_set old j v) k d ≡ cond (j == k) (f (slice_index_or old k d)) (slice_index_or old k d)
entry-written old d v f j k within is = by_key (j == k) refl
  where
    by_key : (b : Bool) → (j == k) ≡ b → slice_index_or (slice_set old j v) k d ≡ cond b (f (slice_index_or old k d)) (slice_index_or old k d)
    by_key true e =
        let same : j ≡ k = eqb-true j k e in
        get_or-set_at old j k v d (sym same) within ∙ is ∙ ap (λ i. f (slice_index_or old i d)) same
    by_key false e = get_or-set_other old j k v d (λ same. eqb-false j k e (sym same))

-- the least and the greatest of a code again and again
pub again-least : (code a n : ℕ) → 0 < n → again (λ m. min m code) a n ≡ min a code
again-least code a zero some = absurd (omega (arith, some))
again-least code a (suc zero) some = refl
again-least code a (suc (suc n)) some =
    let before : again (λ m. min m code) a (suc n) ≡ min a code = again-least code a (suc n) (omega arith) in
    ap (λ m. min m code) before ∙ omega arith

pub again-greatest : (code a n : ℕ) → 0 < n → again (λ m. max m code) a n ≡ max a code
again-greatest code a zero some = absurd (omega (arith, some))
again-greatest code a (suc zero) some = refl
again-greatest code a (suc (suc n)) some =
    let before : again (λ m. max m code) a (suc n) ≡ max a code = again-greatest code a (suc n) (omega arith) in
    ap (λ m. max m code) before ∙ omega arith

-- a number so many times
times_more : (number : ℤ) (n : ℕ) → number *ℤ pos (suc n) ≡ (number *ℤ pos n) +ℤ number
times_more number n = *ℤ_comm number (pos (suc n)) ∙ suc_ℤ-*ℤ (pos n) number ∙ ap (λ m. m +ℤ number) (*ℤ_comm (pos n) number)

pub again-sum : (number a : ℤ) (n : ℕ) → again (λ s. s +ℤ number) a n ≡ a +ℤ (number *ℤ pos n)
again-sum number a zero = sym (ap (λ m. a +ℤ m) (*ℤ-zero number) ∙ +ℤ_idr a)
again-sum number a (suc n) =
    ap (λ s. s +ℤ number) (again-sum number a n) ∙ +ℤ_assoc a (number *ℤ pos n) number ∙ ap (λ m. a +ℤ m) (sym (times_more number n))

pub again-bound : (number a : ℤ) (n m : ℕ) → FitsSigned w64 number → IsSumOf m a → IsSumOf (m + n) (again (λ s. s +ℤ number) a n)
again-bound number a zero m fits is = subst (λ l. IsSumOf l a) (sym (add-zero m)) is
again-bound number a (suc n) m fits is =
    let before : IsSumOf (m + n) (again (λ s. s +ℤ number) a n) = again-bound number a n m fits is in
    (omega (arith, ints, before.0, fits), omega (arith, ints, before.1, fits))

pub times-bound : (number : ℤ) (n : ℕ) → FitsSigned w64 number → IsSumOf n (number *ℤ pos n)
times-bound number n fits =
    subst (IsSumOf n) (again-sum number (pos 0) n ∙ +ℤ_idl (number *ℤ pos n)) (IsSumOf-same (0 + n) n (again (λ s. s +ℤ number) (pos 0) n) (omega arith) (again-bound number (pos 0) n 0 fits (omega (arith, ints), omega (arith, ints))))
