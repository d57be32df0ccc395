-- Where all places have one key: the places of a key are all that are chosen, or none.
use Rattle.std.proofs.Common.{◌≡◌, ℕ, ◌+◌, ◌<◌, ℤ, pos, List, [], ◌∷◌, ◌++◌, zero, suc, add-one, Bool, true, false, ◌&&◌, cond, length, ◌≤◌, refl, sym, ◌∙◌, ap, subst, arith, fold, add-zero}
use Rattle.std.specs.Prelude.{Some, slice_index, slice_index_or, slice_set, ◌==◌}
use Rattle.std.specs.Option.{unwrap_or}
use Rattle.std.proofs.lemmas.List.{get_or-set_other}
use Rattle.std.proofs.lemmas.Bool.{eqb-true, eqb-false}
use Rattle.std.proofs.lemmas.Grind.{get_or-set_at}
use Rattle.batch_kernels.specs.Places.{key_in, places, places_with, IsSumOf}
use Rattle.batch_kernels.specs.declared.keys.Keys.{Keys}
use Rattle.batch_kernels.proofs.OneMore.{IsSumOf-same, count-most, filter-more}

none_kept : (b : Bool) → cond {A = List ℕ} b [] [] ≡ []
none_kept true = refl
none_kept false = refl

one_kept : (n : ℕ) (b m : Bool) (all : List ℕ) → (cond b all [] ++ cond (m && b) (n ∷ []) []) ≡ cond b (all ++ cond m (n ∷ []) []) []
one_kept n true true all = refl
one_kept n true false all = refl
one_kept n false true all = refl
one_kept n false false all = refl

pub places-lone : (mask : List Bool) (key : ℕ → ℕ) (j k n : ℕ) → ((i : ℕ) → i < n → key i ≡ j) → places_with mask key k n ≡ cond (j == k) (places mask n) []
places-lone mask key j k zero is = sym (none_kept (j == k))
places-lone mask key j k (suc n) is =
    let chosen : ℕ → Bool = λ i. slice_index_or mask i false in
    ap (places_with mask key k) (sym (add-one n))
    ∙ filter-more (λ i. chosen i && key i == k) n
    ∙ ap (λ xs. xs ++ cond (chosen n && key n == k) (n ∷ []) []) (places-lone mask key j k n (λ i below. is i (omega (arith, below))))
    ∙ ap (λ x. cond (j == k) (places mask n) [] ++ cond (chosen n && x == k) (n ∷ []) []) (is n (omega arith))
    ∙ one_kept n (j == k) (chosen n) (places mask n)
    ∙ ap (λ xs. cond (j == k) xs []) (sym (filter-more chosen n))
    ∙ ap (λ m. cond (j == k) (places mask m) []) (add-one n)

-- an entry written at the one key
module _ {A : Type 0} (mask : List Bool) (step : A → ℕ → A) (old : List A) (d v : A) (j k n : ℕ) (there : j < length old)
    (is : v ≡ fold step (slice_index_or old j d) (places mask n)) where
  entry : (b : Bool) → (j == k) ≡ b → slice_index_or (slice_set old j v) k d ≡ fold step (slice_index_or old k d) (cond b (places mask n) [])
  entry true e =
      let same : j ≡ k = eqb-true j k e in
      get_or-set_at old j k v d (sym same) there ∙ is ∙ ap (λ i. fold step (slice_index_or old i d) (places mask n)) same
  entry false e = get_or-set_other old j k v d (λ same. eqb-false j k e (sym same))

  pub lone-table : (key : ℕ → ℕ) → ((i : ℕ) → i < n → key i ≡ j) → slice_index_or (slice_set old j v) k d ≡ fold step (slice_index_or old k d) (places_with mask key k n)
  lone-table key same = entry (j == k) refl ∙ ap (fold step (slice_index_or old k d)) (sym (places-lone mask key j k n same))

-- a count written at the one key
module _ (mask : List Bool) (old : List ℕ) (v j k n : ℕ) (there : j < length old) (is : v ≡ slice_index_or old j 0 + length (places mask n)) where
  counted : (b : Bool) → (j == k) ≡ b → slice_index_or (slice_set old j v) k 0 ≡ slice_index_or old k 0 + length (cond b (places mask n) [])
  counted true e =
      let same : j ≡ k = eqb-true j k e in
      get_or-set_at old j k v 0 (sym same) there ∙ is ∙ ap (λ i. slice_index_or old i 0 + length (places mask n)) same
  counted false e = get_or-set_other old j k v 0 (λ same. eqb-false j k e (sym same)) ∙ sym (add-zero (slice_index_or old k 0))

  pub lone-count : (key : ℕ → ℕ) → ((i : ℕ) → i < n → key i ≡ j) → slice_index_or (slice_set old j v) k 0 ≡ slice_index_or old k 0 + length (places_with mask key k n)
  lone-count key same = counted (j == k) refl ∙ ap (λ xs. slice_index_or old k 0 + length xs) (sym (places-lone mask key j k n same))

-- as many numbers may have the sum written at the one key
module _ (mask : List Bool) (old : List ℤ) (v : ℤ) (j k n m : ℕ) (there : j < length old)
    (bound : (l : ℕ) → IsSumOf l (slice_index_or old j (pos 0)) → IsSumOf (l + length (places mask n)) v) (before : IsSumOf m (slice_index_or old k (pos 0))) where
  bounded : (b : Bool) → (j == k) ≡ b → IsSumOf (m + length (cond b (places mask n) [])) (slice_index_or (slice_set old j v) k (pos 0))
  bounded true e =
      let same : j ≡ k = eqb-true j k e in
      let written : slice_index_or (slice_set old j v) k (pos 0) ≡ v = get_or-set_at old j k v (pos 0) (sym same) there in
      subst (IsSumOf (m + length (places mask n))) (sym written) (bound m (subst (λ i. IsSumOf m (slice_index_or old i (pos 0))) (sym same) before))
  bounded false e =
      let other : slice_index_or (slice_set old j v) k (pos 0) ≡ slice_index_or old k (pos 0) = get_or-set_other old j k v (pos 0) (λ same. eqb-false j k e (sym same)) in
      subst (IsSumOf (m + 0)) (sym other) (IsSumOf-same m (m + 0) (slice_index_or old k (pos 0)) (sym (add-zero m)) before)

  pub lone-bound : (key : ℕ → ℕ) → ((i : ℕ) → i < n → key i ≡ j) → IsSumOf (m + length (places_with mask key k n)) (slice_index_or (slice_set old j v) k (pos 0))
  lone-bound key same = subst (λ xs. IsSumOf (m + length xs) (slice_index_or (slice_set old j v) k (pos 0))) (sym (places-lone mask key j k n same)) (bounded (j == k) refl)

-- the key number that all places have
pub lone-key : (keys : Keys) (j : ℕ) → keys.lone ≡ Some j → (i : ℕ) → key_in keys i ≡ j
lone-key keys j is i = ap (λ lone. unwrap_or lone (slice_index keys.each i)) is

pub lone-there : (keys : Keys) (j n size : ℕ) → keys.lone ≡ Some j → 0 < n → ((i : ℕ) → i < n → key_in keys i < size) → j < size
lone-there keys j n size is some below = subst (λ key. key < size) (lone-key keys j is 0) (below 0 some)

-- no more places are chosen than there are
pub places-most : (mask : List Bool) (n m : ℕ) → m ≡ length (places mask n) → m ≤ n
places-most mask n m is = omega (arith, is, count-most (λ i. slice_index_or mask i false) n)
