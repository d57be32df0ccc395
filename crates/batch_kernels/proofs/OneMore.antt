-- One place more: of the places that are chosen, of a fold over them, and of a fold for each key.
use Rattle.std.proofs.Common.{◌≡◌, ℕ, zero, suc, ◌+◌, ◌<◌, ◌≤◌, ℤ, pos, ◌+ℤ◌, List, [], ◌∷◌, ◌++◌, Bool, true, false, ◌&&◌, cond, length, refl, sym, ◌∙◌, ap, arith, fold, filter, length-append, add-one, add-zero, FitsSigned, w64, subst}
use Rattle.std.specs.Prelude.{slice_index, slice_index_or, slice_set, ◌==◌}
use Rattle.std.proofs.lemmas.List.{map-id, get_or-set_other}
use Rattle.std.specs.List.{range_with_len}
use Rattle.std.proofs.lemmas.List.FromFn.{map-range_with_len_more}
use Rattle.std.proofs.lemmas.List.Elements.{filter-append}
use Rattle.std.proofs.lemmas.List.Sums.{fold-append}
use Rattle.std.proofs.lemmas.Bool.{eqb-true, eqb-false}
use Rattle.std.proofs.lemmas.Grind.{get_or-set_at}
use mir.Val.{bool_byte}
use Rattle.std.proofs.Math.Bool.{and-true}
use Rattle.std.proofs.lemmas.Int.{ints}
use Rattle.batch_kernels.specs.Places.{places_with, IsSumOf}

-- the numbers below n + 1
pub range-more : (n : ℕ) → range_with_len 0 (n + 1) ≡ range_with_len 0 n ++ n ∷ []
range-more n =
    sym (map-id (range_with_len 0 (n + 1)))
    ∙ map-range_with_len_more (λ x. x) 0 n n (omega arith)
    ∙ ap (λ xs. xs ++ n ∷ []) (map-id (range_with_len 0 n))

-- those below n + 1 that a test passes
pub filter-more : (p : ℕ → Bool) (n : ℕ) → filter p (range_with_len 0 (n + 1)) ≡ filter p (range_with_len 0 n) ++ cond (p n) (n ∷ []) []
filter-more p n = ap (filter p) (range-more n) ∙ filter-append p (range_with_len 0 n) (n ∷ [])

fold_one : {A : Type 0} (step : A → ℕ → A) (a : A) (n : ℕ) (b : Bool) → fold step a (cond b (n ∷ []) []) ≡ cond b (step a n) a
fold_one step a n true = refl
fold_one step a n false = refl

-- a fold over them
pub fold-more : {A : Type 0} (p : ℕ → Bool) (step : A → ℕ → A) (a : A) (n : ℕ) →
    fold step a (filter p (range_with_len 0 (n + 1))) ≡ cond (p n) (step (fold step a (filter p (range_with_len 0 n))) n) (fold step a (filter p (range_with_len 0 n)))
fold-more p step a n =
    ap (fold step a) (filter-more p n)
    ∙ fold-append step a (filter p (range_with_len 0 n)) (cond (p n) (n ∷ []) [])
    ∙ fold_one step (fold step a (filter p (range_with_len 0 n))) n (p n)

length_one : (n : ℕ) (b : Bool) → length (cond b (n ∷ []) []) ≡ cond b 1 0
length_one n true = refl
length_one n false = refl

pub count-more : (p : ℕ → Bool) (n : ℕ) → length (filter p (range_with_len 0 (n + 1))) ≡ length (filter p (range_with_len 0 n)) + cond (p n) 1 0
count-more p n =
    ap length (filter-more p n)
    ∙ length-append (filter p (range_with_len 0 n)) (cond (p n) (n ∷ []) [])
    ∙ ap (λ m. length (filter p (range_with_len 0 n)) + m) (length_one n (p n))

at_most_one : (b : Bool) → cond b 1 0 ≤ 1
at_most_one true = omega arith
at_most_one false = omega arith

-- at most n of them pass
pub count-most : (p : ℕ → Bool) (n : ℕ) → length (filter p (range_with_len 0 n)) ≤ n
count-most p zero = omega arith
count-most p (suc n) =
    let before : length (filter p (range_with_len 0 n)) ≤ n = count-most p n in
    let one : cond (p n) 1 0 ≤ 1 = at_most_one (p n) in
    let more : length (filter p (range_with_len 0 (n + 1))) ≡ length (filter p (range_with_len 0 n)) + cond (p n) 1 0 = count-more p n in
    let same : length (filter p (range_with_len 0 (suc n))) ≡ length (filter p (range_with_len 0 (n + 1))) = ap (λ m. length (filter p (range_with_len 0 m))) (sym (add-one n)) in
    omega (arith, before, one, more, same)

-- how many there are, as a fold
pub fold-count : {A : Type 0} (n : ℕ) (xs : List A) → fold (λ count _. count + 1) n xs ≡ n + length xs
fold-count n [] = sym (add-zero n)
fold-count n (x ∷ xs) =
    let rest : fold (λ count _. count + 1) (n + 1) xs ≡ n + 1 + length xs = fold-count (n + 1) xs in
    let more : length (x ∷ xs) ≡ length xs + 1 = sym (add-one (length xs)) in
    omega (arith, rest, more)

stepped : {A : Type 0} (mask : List Bool) (keys : List ℕ) (step : A → ℕ → A) (old now : List A) (n k : ℕ) (v d : A) (chosen is_key : Bool) →
    (slice_index keys n == k) ≡ is_key →
    slice_index keys n < length now → v ≡ cond chosen (step (slice_index_or now (slice_index keys n) d) n) (slice_index_or now (slice_index keys n) d) →
    slice_index_or now k d ≡ fold step (slice_index_or old k d) (places_with mask (slice_index keys) k n) →
    slice_index_or (slice_set now (slice_index keys n) v) k d
    ≡ cond (chosen && is_key) (step (fold step (slice_index_or old k d) (places_with mask (slice_index keys) k n)) n) (fold step (slice_index_or old k d) (places_with mask (slice_index keys) k n))
stepped mask keys step old now n k v d true true e within is before =
    let same : slice_index keys n ≡ k = eqb-true (slice_index keys n) k e in
    get_or-set_at now (slice_index keys n) k v d (sym same) within
    ∙ is ∙ ap (λ m. step (slice_index_or now m d) n) same ∙ ap (λ m. step m n) before
stepped mask keys step old now n k v d false true e within is before =
    let same : slice_index keys n ≡ k = eqb-true (slice_index keys n) k e in
    get_or-set_at now (slice_index keys n) k v d (sym same) within
    ∙ is ∙ ap (λ m. slice_index_or now m d) same ∙ before
stepped mask keys step old now n k v d true false e within is before =
    get_or-set_other now (slice_index keys n) k v d (λ same. eqb-false (slice_index keys n) k e (sym same)) ∙ before
stepped mask keys step old now n k v d false false e within is before =
    get_or-set_other now (slice_index keys n) k v d (λ same. eqb-false (slice_index keys n) k e (sym same)) ∙ before

-- an entry written at the key of one place more, where the entries stand for the first n places
pub table-more : {A : Type 0} (mask : List Bool) (keys : List ℕ) (step : A → ℕ → A) (old now : List A) (n : ℕ) (v d : A) →
    slice_index keys n < length now →
    v ≡ cond (slice_index_or mask n false) (step (slice_index_or now (slice_index keys n) d) n) (slice_index_or now (slice_index keys n) d) →
    ((k : ℕ) → k < length now → slice_index_or now k d ≡ fold step (slice_index_or old k d) (places_with mask (slice_index keys) k n)) →
    (k : ℕ) → k < length now → slice_index_or (slice_set now (slice_index keys n) v) k d ≡ fold step (slice_index_or old k d) (places_with mask (slice_index keys) k (n + 1))
table-more mask keys step old now n v d within is before k there =
    stepped mask keys step old now n k v d (slice_index_or mask n false) (slice_index keys n == k) refl within is (before k there)
    ∙ sym (fold-more (λ i. slice_index_or mask i false && slice_index keys i == k) step (slice_index_or old k d) n)

-- what is kept at a place by 0 and 1 is kept where it is chosen
pub by_inside : {A : Type 0} (b : Bool) (v x y : A) → (bool_byte b ≡ 1 → v ≡ x) → (bool_byte b ≡ 0 → v ≡ y) → v ≡ cond b x y
by_inside true v x y inside outside = inside refl
by_inside false v x y inside outside = outside refl

pub byte_most : (b : Bool) → bool_byte b ≤ 1
byte_most true = omega arith
byte_most false = omega arith

byte_is : (b : Bool) → bool_byte b ≡ cond b 1 0
byte_is true = refl
byte_is false = refl

pub byte_added : (b : Bool) (n : ℕ) → n + bool_byte b ≡ cond b (n + 1) n
byte_added true n = refl
byte_added false n = add-zero n

-- one more, where the place is chosen
pub count-byte : (p : ℕ → Bool) (n : ℕ) → length (filter p (range_with_len 0 n)) + bool_byte (p n) ≡ length (filter p (range_with_len 0 (n + 1)))
count-byte p n = ap (λ m. length (filter p (range_with_len 0 n)) + m) (byte_is (p n)) ∙ sym (count-more p n)

-- as many numbers or more may have the sum
pub IsSumOf-more : (m n : ℕ) (sum : ℤ) → m ≤ n → IsSumOf m sum → IsSumOf n sum
IsSumOf-more m n sum more is = (omega (arith, ints, is.0), omega (arith, ints, is.1))

-- so may one number more, where it is inside
pub IsSumOf-inside : (sum number part : ℤ) (inside n : ℕ) → FitsSigned w64 number → inside < 2 → (inside ≡ 1 → part ≡ number) → (inside ≡ 0 → part ≡ pos 0) →
    IsSumOf n sum → IsSumOf (n + inside) (sum +ℤ part)
IsSumOf-inside sum number part zero n fits two one none is =
    let e : part ≡ pos 0 = none refl in
    (omega (arith, ints, e, is.0), omega (arith, ints, e, is.1))
IsSumOf-inside sum number part (suc zero) n fits two one none is =
    let e : part ≡ number = one refl in
    (omega (arith, ints, e, is.0, fits), omega (arith, ints, e, is.1, fits))
IsSumOf-inside sum number part (suc (suc m)) n fits two one none is = absurd (omega (arith, two))

-- the sums of two tallies of places that are as many
pub IsSumOf-same : (m n : ℕ) (sum : ℤ) → m ≡ n → IsSumOf m sum → IsSumOf n sum
IsSumOf-same m n sum same is = IsSumOf-more m n sum (omega (arith, same)) is

sum_table_stepped : (mask : List Bool) (keys : List ℕ) (now : List ℤ) (i : ℕ) (sum : ℤ) (k m : ℕ) (is_key : Bool) → (slice_index keys i == k) ≡ is_key →
    slice_index keys i < length now → ((n : ℕ) → IsSumOf n (slice_index_or now (slice_index keys i) (pos 0)) → IsSumOf (n + bool_byte (slice_index_or mask i false)) sum) →
    IsSumOf m (slice_index_or now k (pos 0)) → IsSumOf (m + cond (slice_index_or mask i false && is_key) 1 0) (slice_index_or (slice_set now (slice_index keys i) sum) k (pos 0))
sum_table_stepped mask keys now i sum k m true e within bound is =
    let same : slice_index keys i ≡ k = eqb-true (slice_index keys i) k e in
    let written : slice_index_or (slice_set now (slice_index keys i) sum) k (pos 0) ≡ sum = get_or-set_at now (slice_index keys i) k sum (pos 0) (sym same) within in
    let more : IsSumOf (m + bool_byte (slice_index_or mask i false)) sum = bound m (subst (λ j. IsSumOf m (slice_index_or now j (pos 0))) (sym same) is) in
    subst (IsSumOf (m + cond (slice_index_or mask i false && true) 1 0)) (sym written)
    (IsSumOf-same (m + bool_byte (slice_index_or mask i false)) (m + cond (slice_index_or mask i false && true) 1 0) sum
    (ap (λ j. m + j) (byte_is (slice_index_or mask i false) ∙ ap (λ b. cond b 1 0) (sym (and-true (slice_index_or mask i false))))) more)
sum_table_stepped mask keys now i sum k m false e within bound is =
    let other : slice_index_or (slice_set now (slice_index keys i) sum) k (pos 0) ≡ slice_index_or now k (pos 0)
    = get_or-set_other now (slice_index keys i) k sum (pos 0) (λ same. eqb-false (slice_index keys i) k e (sym same)) in
    subst (IsSumOf (m + cond (slice_index_or mask i false && false) 1 0)) (sym other)
    (IsSumOf-more m (m + cond (slice_index_or mask i false && false) 1 0) (slice_index_or now k (pos 0)) (omega arith) is)

-- the sums of a table, with one written at the key of one place more
pub sum-table-bound : (mask : List Bool) (keys : List ℕ) (now : List ℤ) (i : ℕ) (sum : ℤ) (k n : ℕ) →
    slice_index keys i < length now → ((n : ℕ) → IsSumOf n (slice_index_or now (slice_index keys i) (pos 0)) → IsSumOf (n + bool_byte (slice_index_or mask i false)) sum) →
    IsSumOf (n + length (places_with mask (slice_index keys) k i)) (slice_index_or now k (pos 0)) →
    IsSumOf (n + length (places_with mask (slice_index keys) k (i + 1))) (slice_index_or (slice_set now (slice_index keys i) sum) k (pos 0))
sum-table-bound mask keys now i sum k n within bound is =
    let more : length (places_with mask (slice_index keys) k (i + 1)) ≡ length (places_with mask (slice_index keys) k i) + cond (slice_index_or mask i false && slice_index keys i == k) 1 0
    = count-more (λ j. slice_index_or mask j false && slice_index keys j == k) i in
    IsSumOf-same (n + length (places_with mask (slice_index keys) k i) + cond (slice_index_or mask i false && slice_index keys i == k) 1 0) (n + length (places_with mask (slice_index keys) k (i + 1)))
    (slice_index_or (slice_set now (slice_index keys i) sum) k (pos 0)) (omega (arith, more))
    (sum_table_stepped mask keys now i sum k (n + length (places_with mask (slice_index keys) k i)) (slice_index keys i == k) refl within bound is)
