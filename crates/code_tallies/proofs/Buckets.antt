-- The rows of a group key number by key number, and what a filter keeps of the shown ones.
use Rattle.std.proofs.Common.{◌≡◌, ℕ, zero, suc, ◌+◌, ◌<◌, ◌⊎◌, inl, inr, List, [], ◌∷◌, ◌++◌, Bool, true, false, ◌&&◌, nat_lt, cond, map, filter, refl, sym, ◌∙◌, ap, subst, arith, add-one, append_assoc}
use Rattle.std.specs.Prelude.{◌==◌}
use Rattle.std.specs.List.{range_with_len, All}
use Rattle.std.specs.List.Sorted.{IsPermutation}
use Rattle.std.proofs.lemmas.Bool.{cases_lt, lt-ltb}
use Rattle.std.proofs.lemmas.Bool.Decides.{nat_tests}
use Rattle.std.proofs.lemmas.List.{append-nil, map-append}
use Rattle.std.proofs.lemmas.List.Elements.{All-push, All-nil, filter-append}
use Rattle.std.proofs.lemmas.List.Sorted.{IsPermutation-refl, IsPermutation-cons, IsPermutation-middle, IsPermutation-map, IsPermutation-sym, IsPermutation-trans, IsPermutation-append_right}
use Rattle.batch_kernels.proofs.OneMore.{filter-more}
use Rattle.code_tallies.specs.declared.column.Column.{Column}
use Rattle.code_tallies.specs.Columns.{code_at}
use Rattle.code_tallies.specs.Keys.{key_at, key_count, HasKeys}
use Rattle.code_tallies.specs.Tables.{positions, positions_below}
use Rattle.code_tallies.proofs.KeyNumbers.{joined-below}

-- the first test passes what exactly one of the others passes
abbrev IsSplit : Bool → Bool → Bool → Type 0
IsSplit p q r = ((p ≡ true) × (q ≡ true) × (r ≡ false)) ⊎ (((p ≡ true) × (q ≡ false) × (r ≡ true)) ⊎ ((p ≡ false) × (q ≡ false) × (r ≡ false)))

one_split : (x : ℕ) (ps qs rs : List ℕ) (p q r : Bool) → IsSplit p q r → IsPermutation ps (qs ++ rs) → IsPermutation (cond p (x ∷ ps) ps) (cond q (x ∷ qs) qs ++ cond r (x ∷ rs) rs)
one_split x ps qs rs true true false h moved = IsPermutation-cons x ps (qs ++ rs) moved
one_split x ps qs rs true false true h moved =
    IsPermutation-trans (x ∷ ps) (x ∷ (qs ++ rs)) (qs ++ (x ∷ rs)) (IsPermutation-cons x ps (qs ++ rs) moved)
    (IsPermutation-sym (qs ++ (x ∷ rs)) (x ∷ (qs ++ rs)) (IsPermutation-middle qs x rs))
one_split x ps qs rs false false false h moved = moved
one_split x ps qs rs true true true (inl h) moved = absurd (cc h.2)
one_split x ps qs rs true true true (inr (inl h)) moved = absurd (cc h.1)
one_split x ps qs rs true true true (inr (inr h)) moved = absurd (cc h.0)
one_split x ps qs rs true false false (inl h) moved = absurd (cc h.1)
one_split x ps qs rs true false false (inr (inl h)) moved = absurd (cc h.2)
one_split x ps qs rs true false false (inr (inr h)) moved = absurd (cc h.0)
one_split x ps qs rs false true r (inl h) moved = absurd (cc h.0)
one_split x ps qs rs false true r (inr (inl h)) moved = absurd (cc h.0)
one_split x ps qs rs false true r (inr (inr h)) moved = absurd (cc h.1)
one_split x ps qs rs false false true (inl h) moved = absurd (cc h.0)
one_split x ps qs rs false false true (inr (inl h)) moved = absurd (cc h.0)
one_split x ps qs rs false false true (inr (inr h)) moved = absurd (cc h.2)

split : (p q r : ℕ → Bool) (xs : List ℕ) → ((x : ℕ) → IsSplit (p x) (q x) (r x)) → IsPermutation (filter p xs) (filter q xs ++ filter r xs)
split p q r [] each = IsPermutation-refl []
split p q r (x ∷ xs) each = one_split x (filter p xs) (filter q xs) (filter r xs) (p x) (q x) (r x) (each x) (split p q r xs each)

key_split : (chosen : Bool) (x k : ℕ) → IsSplit (chosen && nat_lt x (k + 1)) (chosen && nat_lt x k) (chosen && x == k)
key_split false x k = inr (inr (refl, refl, refl))
key_split true x k = elim (cases_lt x k) [
  | inl less ↦ inl (grind (arith, nat_tests), grind (arith, nat_tests), grind (arith, nat_tests))
  | inr more ↦ elim (cases_lt k x) [
    | inl above ↦ inr (inr (grind (arith, nat_tests), grind (arith, nat_tests), grind (arith, nat_tests)))
    | inr low ↦ inr (inl (grind (arith, nat_tests), grind (arith, nat_tests), grind (arith, nat_tests)))
  ]
]

pub below-more : {X : Type 0} (row : ℕ → X) (chosen : ℕ → Bool) (key : ℕ → ℕ) (k n : ℕ) (rows : List X) →
    IsPermutation (rows ++ map row (positions_below chosen key k n) ++ map row (positions chosen key k n)) (rows ++ map row (positions_below chosen key (k + 1) n))
below-more row chosen key k n rows =
    let below = positions_below chosen key k n in
    let here = positions chosen key k n in
    let more = positions_below chosen key (k + 1) n in
    let parts : IsPermutation more (below ++ here)
    = split (λ i. chosen i && nat_lt (key i) (k + 1)) (λ i. chosen i && nat_lt (key i) k) (λ i. chosen i && key i == k) (range_with_len 0 n) (λ i. key_split (chosen i) (key i) k) in
    let moved : IsPermutation (map row more) (map row below ++ map row here)
    = subst (IsPermutation (map row more)) (map-append row below here) (IsPermutation-map row more (below ++ here) parts) in
    subst (λ l. IsPermutation l (rows ++ map row more)) (sym (append_assoc rows (map row below) (map row here)))
    (IsPermutation-append_right rows (map row below ++ map row here) (map row more) (IsPermutation-sym (map row more) (map row below ++ map row here) moved))

none_here : (b : Bool) (x : ℕ) → (b && nat_lt x 0) ≡ false
none_here true x = grind (arith, nat_tests)
none_here false x = refl

-- no key number is below 0, and each is below the count of them
pub below-none : (chosen : ℕ → Bool) (key : ℕ → ℕ) (n : ℕ) → positions_below chosen key 0 n ≡ []
below-none chosen key zero = refl
below-none chosen key (suc n) =
    let none : (chosen n && nat_lt (key n) 0) ≡ false = none_here (chosen n) (key n) in
    ap (λ m. positions_below chosen key 0 m) (sym (add-one n))
    ∙ filter-more (λ i. chosen i && nat_lt (key i) 0) n
    ∙ ap (λ b. positions_below chosen key 0 n ++ cond b (n ∷ []) []) none
    ∙ append-nil (positions_below chosen key 0 n)
    ∙ below-none chosen key n

pub same-below : (p q : ℕ → Bool) (n : ℕ) → ((i : ℕ) → i < n → p i ≡ q i) → filter p (range_with_len 0 n) ≡ filter q (range_with_len 0 n)
same-below p q zero same = refl
same-below p q (suc n) same =
    ap (λ m. filter p (range_with_len 0 m)) (sym (add-one n))
    ∙ filter-more p n
    ∙ ap (λ xs. xs ++ cond (p n) (n ∷ []) []) (same-below p q n (λ i below. same i (omega arith)))
    ∙ ap (λ b. filter q (range_with_len 0 n) ++ cond b (n ∷ []) []) (same n (omega arith))
    ∙ sym (filter-more q n)
    ∙ ap (λ m. filter q (range_with_len 0 m)) (add-one n)

pub key-below : (columns : List Column) (n i : ℕ) → HasKeys n columns → i < n → key_at columns i < key_count columns
key-below [] n i has within = omega arith
key-below (c ∷ cs) n i has within =
    joined-below c cs (key_at cs i) (code_at c i) (key-below cs n i has.4 within) (has.2 i within)

and_yes : (b c : Bool) → c ≡ true → (b && c) ≡ b
and_yes true c e = e
and_yes false c e = refl

pub below-all : (chosen : ℕ → Bool) (key : ℕ → ℕ) (size n : ℕ) → ((i : ℕ) → i < n → key i < size) → positions_below chosen key size n ≡ filter chosen (range_with_len 0 n)
below-all chosen key size n within =
    same-below (λ i. chosen i && nat_lt (key i) size) chosen n (λ i below. and_yes (chosen i) (nat_lt (key i) size) (lt-ltb (key i) size (within i below)))

-- the rows at one position more
pub rows-more : {X : Type 0} (f : ℕ → X) (p : ℕ → Bool) (n : ℕ) → map f (filter p (range_with_len 0 (n + 1))) ≡ map f (filter p (range_with_len 0 n)) ++ map f (cond (p n) (n ∷ []) [])
rows-more f p n = ap (map f) (filter-more p n) ∙ map-append f (filter p (range_with_len 0 n)) (cond (p n) (n ∷ []) [])

-- a filter of the rows at some positions
one_filtered : {X : Type 0} (test : X → Bool) (row : X) (n : ℕ) (s b c : Bool) → test row ≡ b → c ≡ (s && b) → (f : ℕ → X) → f n ≡ row → filter test (map f (cond s (n ∷ []) [])) ≡ map f (cond c (n ∷ []) [])
one_filtered test row n false b c e g f h = ap (λ d. map f (cond d (n ∷ []) [])) (sym g)
one_filtered test row n true true c e g f h =
    ap (λ d. cond d (f n ∷ []) []) (ap test h ∙ e) ∙ ap (λ d. map f (cond d (n ∷ []) [])) (sym g)
one_filtered test row n true false c e g f h =
    ap (λ d. cond d (f n ∷ []) []) (ap test h ∙ e) ∙ ap (λ d. map f (cond d (n ∷ []) [])) (sym g)

pub rows-filtered : {X : Type 0} (test : X → Bool) (f : ℕ → X) (s c : ℕ → Bool) (n : ℕ) → ((i : ℕ) → i < n → c i ≡ (s i && test (f i))) →
    filter test (map f (filter s (range_with_len 0 n))) ≡ map f (filter c (range_with_len 0 n))
rows-filtered test f s c zero each = refl
rows-filtered test f s c (suc n) each =
    ap (λ m. filter test (map f (filter s (range_with_len 0 m)))) (sym (add-one n))
    ∙ ap (filter test) (rows-more f s n)
    ∙ filter-append test (map f (filter s (range_with_len 0 n))) (map f (cond (s n) (n ∷ []) []))
    ∙ ap (λ xs. xs ++ filter test (map f (cond (s n) (n ∷ []) []))) (rows-filtered test f s c n (λ i below. each i (omega arith)))
    ∙ ap (λ xs. map f (filter c (range_with_len 0 n)) ++ xs) (one_filtered test (f n) n (s n) (test (f n)) (c n) refl (each n (omega arith)) f refl)
    ∙ sym (rows-more f c n)
    ∙ ap (λ m. map f (filter c (range_with_len 0 m))) (add-one n)

-- what holds of each row at a position that passes holds of all of them
one_all : {X : Type 0} (P : X → Type 0) (f : ℕ → X) (xs : List X) (n : ℕ) (b : Bool) → All P xs → (b ≡ true → P (f n)) → All P (xs ++ map f (cond b (n ∷ []) []))
one_all P f xs n true all here = All-push P xs (f n) all (here refl)
one_all P f xs n false all here = subst (All P) (sym (append-nil xs)) all

pub rows-all : {X : Type 0} (P : X → Type 0) (f : ℕ → X) (p : ℕ → Bool) (n : ℕ) → ((i : ℕ) → i < n → p i ≡ true → P (f i)) → All P (map f (filter p (range_with_len 0 n)))
rows-all P f p zero each = All-nil P
rows-all P f p (suc n) each =
    let all : All P (map f (filter p (range_with_len 0 n)) ++ map f (cond (p n) (n ∷ []) []))
    = one_all P f (map f (filter p (range_with_len 0 n))) n (p n) (rows-all P f p n (λ i below. each i (omega arith))) (each n (omega arith)) in
    subst (λ m. All P (map f (filter p (range_with_len 0 m)))) (add-one n) (subst (All P) (sym (rows-more f p n)) all)
