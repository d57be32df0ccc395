-- What is kept of the batches so far, with one batch more.
use Rattle.std.proofs.Common.{◌≡◌, ℕ, zero, suc, ◌+◌, ◌-◌, ◌*◌, ◌<◌, ◌≤◌, List, [], ◌∷◌, ◌++◌, Bool, false, ◌&&◌, length, min, refl, take, sym, ◌∙◌, ap, arith, fold, filter, cond, add-zero}
use Rattle.std.specs.Prelude.{◌==◌, slice_index_or}
use Rattle.std.specs.List.{AllZip, range_with_len}
use Rattle.std.proofs.lemmas.List.{append-nil}
use Rattle.batch_kernels.specs.Places.{places_with}
use Rattle.batch_kernels.proofs.OneMore.{filter-more}
use Rattle.code_tallies.specs.declared.column.Column.{Column}
use Rattle.code_tallies.specs.Keys.{HasKeys}
use Rattle.code_tallies.specs.Tables.{positions}
use Rattle.batch_kernels.proofs.Batches.{fold-batch, count-batch, place-same}

-- positions that a test does not pass come to none
pub filter-skip : (P : ℕ → Bool) (from n : ℕ) → ((i : ℕ) → i < n → P (from + i) ≡ false) → filter P (range_with_len 0 (from + n)) ≡ filter P (range_with_len 0 from)
filter-skip P from zero none = ap (λ m. filter P (range_with_len 0 m)) (add-zero from)
filter-skip P from (suc n) none =
    let last : from + suc n ≡ from + n + 1 = omega arith in
    ap (λ m. filter P (range_with_len 0 m)) last
    ∙ filter-more P (from + n)
    ∙ ap (λ b. filter P (range_with_len 0 (from + n)) ++ cond b ((from + n) ∷ []) []) (none n (omega arith))
    ∙ append-nil (filter P (range_with_len 0 (from + n)))
    ∙ filter-skip P from n (λ i below. none i (omega arith))

-- a batch of masks and keys alone
module _ (length_of number : ℕ) (count : ℕ) (here : 1024 * number < length_of) (counted : count ≡ min 1024 (length_of - 1024 * number)) where
  pub reached-first : min (1024 * number) length_of ≡ 1024 * number
  reached-first = omega (arith, here)

  pub reached-next : min (1024 * (number + 1)) length_of ≡ 1024 * number + count
  reached-next = omega (arith, here, counted)

  pub fold-next : {A : Type 0} (P : ℕ → Bool) (key : ℕ → ℕ) (mask : List Bool) (keys : ℕ → ℕ) (k : ℕ) →
      ((i : ℕ) → i < count → slice_index_or mask i false ≡ P (1024 * number + i)) → ((i : ℕ) → i < count → keys i ≡ key (1024 * number + i)) →
      (step g : A → ℕ → A) (a old : A) → ((i : ℕ) (b : A) → i < count → g b i ≡ step b (1024 * number + i)) →
      old ≡ fold step a (positions P key k (min (1024 * number) length_of)) → fold g old (places_with mask keys k count) ≡ fold step a (positions P key k (min (1024 * (number + 1)) length_of))
  fold-next P key mask keys k masks same step g a old steps before =
      ap (λ o. fold g o (places_with mask keys k count)) (before ∙ ap (λ m. fold step a (positions P key k m)) reached-first)
      ∙ sym (fold-batch (λ i. P i && key i == k) (λ i. slice_index_or mask i false && keys i == k) step g a (1024 * number) count
      (λ i below. place-same (slice_index_or mask i false) (P (1024 * number + i)) (keys i) (key (1024 * number + i)) k (masks i below) (same i below)) steps)
      ∙ ap (λ m. fold step a (positions P key k m)) (sym reached-next)

  pub count-next : (P : ℕ → Bool) (key : ℕ → ℕ) (mask : List Bool) (keys : ℕ → ℕ) (k old : ℕ) →
      ((i : ℕ) → i < count → slice_index_or mask i false ≡ P (1024 * number + i)) → ((i : ℕ) → i < count → keys i ≡ key (1024 * number + i)) →
      old ≡ length (positions P key k (min (1024 * number) length_of)) → old + length (places_with mask keys k count) ≡ length (positions P key k (min (1024 * (number + 1)) length_of))
  count-next P key mask keys k old masks same before =
      ap (λ o. o + length (places_with mask keys k count)) (before ∙ ap (λ m. length (positions P key k m)) reached-first)
      ∙ sym (count-batch (λ i. P i && key i == k) (λ i. slice_index_or mask i false && keys i == k) (1024 * number) count
      (λ i below. place-same (slice_index_or mask i false) (P (1024 * number + i)) (keys i) (key (1024 * number + i)) k (masks i below) (same i below)))
      ∙ ap (λ m. length (positions P key k m)) (sym reached-next)

  -- where none of the batch passes, no position comes to those so far
  pub positions-next : (P : ℕ → Bool) (key : ℕ → ℕ) (k : ℕ) → ((i : ℕ) → i < count → P (1024 * number + i) ≡ false) →
      positions P key k (min (1024 * number) length_of) ≡ positions P key k (min (1024 * (number + 1)) length_of)
  positions-next P key k none =
      ap (positions P key k) reached-first
      ∙ sym (filter-skip (λ i. P i && key i == k) (1024 * number) count (λ i below. ap (λ b. b && key (1024 * number + i) == k) (none i below)))
      ∙ ap (positions P key k) (sym reached-next)

-- after all batches
pub reached-all : (length_of number : ℕ) → length_of ≤ 1024 * number → min (1024 * number) length_of ≡ length_of
reached-all length_of number enough = omega (arith, enough)

-- columns that have keys for some positions have them for fewer
pub keys-fewer : (m n : ℕ) (columns : List Column) → n ≤ m → HasKeys m columns → HasKeys n columns
keys-fewer m n [] fewer has = tt
keys-fewer m n (c ∷ cs) fewer has = (omega (arith, fewer, has.0), has.1, (λ i below. has.2 i (omega (arith, fewer, below))), has.3, keys-fewer m n cs fewer has.4)

-- a vector whose elements are written whole
pub written : {X : Type 0} (xs ys : List X) (n : ℕ) → length xs ≡ n → take n (xs ++ ys) ≡ xs
written [] ys zero e = refl
written [] ys (suc n) e = absurd (omega (arith, e))
written (x ∷ xs) ys zero e = absurd (omega (arith, e))
written (x ∷ xs) ys (suc n) e = ap (λ l. x ∷ l) (written xs ys n (omega (arith, e)))

-- one pair more
pub zip-push : {A B : Type 0} (R : A → B → Type 0) (xs : List A) (ys : List B) (x : A) (y : B) → AllZip R xs ys → R x y → AllZip R (xs ++ x ∷ []) (ys ++ y ∷ [])
zip-push R [] [] x y all here = (here, tt)
zip-push R [] (v ∷ ys) x y all here = absurd all
zip-push R (u ∷ xs) [] x y all here = absurd all
zip-push R (u ∷ xs) (v ∷ ys) x y all here = (all.0, zip-push R xs ys x y all.1 here)
