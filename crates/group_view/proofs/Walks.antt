-- Walks over lists: the first element that passes a test, and whether one does.
use Rattle.std.proofs.Common.{◌≡◌, ℕ, zero, suc, ◌<◌, ◌≤◌, ◌+◌, Bool, true, false, ◌&&◌, ◌||◌, cond, leb, List, [], ◌∷◌, map, filter, length, get_or, take, None, Some, refl, sym, ap, ◌∙◌, subst, arith}
use Rattle.std.specs.Prelude.{slice_get}
use Rattle.std.specs.List.{list_any}
use Rattle.std.specs.Option.{option_map}
use Rattle.std.proofs.lemmas.Bool.{le-leb}
use Rattle.std.proofs.lemmas.List.{take_all}
use Rattle.std.proofs.lemmas.Option.{same_Some}
use Rattle.group_book.specs.Book.{how_many}
use Rattle.group_book.specs.Choices.{first_of}
use Rattle.group_book.proofs.Lists.{any_same, every_one}

-- ---- tests of two parts

pub and_true : (t : Bool) → (t && true) ≡ t
and_true true = refl
and_true false = refl

pub and_false : (t : Bool) → (t && false) ≡ false
and_false true = refl
and_false false = refl

pub and_turned : (t u : Bool) → (t && u) ≡ (u && t)
and_turned true u = sym (and_true u)
and_turned false u = sym (and_false u)

pub or_false : (t : Bool) → (t || false) ≡ t
or_false true = refl
or_false false = refl

-- ---- filters

pub filter_same : {X : Type 0} (p q : X → Bool) (xs : List X) → ((x : X) → p x ≡ q x) → filter p xs ≡ filter q xs
filter_same p q [] same = refl
filter_same p q (x ∷ xs) same = rw (same x, filter_same p q xs same) refl

pub map_same : {X Y : Type 0} (f g : X → Y) (xs : List X) → ((x : X) → f x ≡ g x) → map f xs ≡ map g xs
map_same f g [] same = refl
map_same f g (x ∷ xs) same = rw (same x, map_same f g xs same) refl

-- what one test keeps of what another keeps
pub filter-filter : {X : Type 0} (p q : X → Bool) (xs : List X) → filter p (filter q xs) ≡ filter (λ x. p x && q x) xs
filter-filter p q [] = refl
filter-filter p q (x ∷ xs) = step (q x) (filter-filter p q xs)
  where
    step : (t : Bool) → filter p (filter q xs) ≡ filter (λ y. p y && q y) xs → filter p (cond t (x ∷ filter q xs) (filter q xs)) ≡ cond (p x && t) (x ∷ filter (λ y. p y && q y) xs) (filter (λ y. p y && q y) xs)
    step true rest = rw (and_true (p x), rest) refl
    step false rest = rw (and_false (p x)) rest

pub filter-map : {X Y : Type 0} (p : Y → Bool) (f : X → Y) (xs : List X) → filter p (map f xs) ≡ map f (filter (λ x. p (f x)) xs)
filter-map p f [] = refl
filter-map p f (x ∷ xs) = step (p (f x)) (filter-map p f xs)
  where
    step : (t : Bool) → filter p (map f xs) ≡ map f (filter (λ y. p (f y)) xs) → cond t (f x ∷ filter p (map f xs)) (filter p (map f xs)) ≡ map f (cond t (x ∷ filter (λ y. p (f y)) xs) (filter (λ y. p (f y)) xs))
    step true rest = ap (λ ys. f x ∷ ys) rest
    step false rest = rest

-- ---- whether one passes

pub any-map : {X Y : Type 0} (p : Y → Bool) (f : X → Y) (xs : List X) → list_any p (map f xs) ≡ list_any (λ x. p (f x)) xs
any-map p f [] = refl
any-map p f (x ∷ xs) = ap (λ t. p (f x) || t) (any-map p f xs)

pub any-filter : {X : Type 0} (p q : X → Bool) (xs : List X) → list_any p (filter q xs) ≡ list_any (λ x. p x && q x) xs
any-filter p q [] = refl
any-filter p q (x ∷ xs) = step (q x) (any-filter p q xs)
  where
    step : (t : Bool) → list_any p (filter q xs) ≡ list_any (λ y. p y && q y) xs → list_any p (cond t (x ∷ filter q xs) (filter q xs)) ≡ ((p x && t) || list_any (λ y. p y && q y) xs)
    step true rest = rw (and_true (p x)) (ap (λ t. p x || t) rest)
    step false rest = rw (and_false (p x)) rest

pub any_alike : {X : Type 0} (p q : X → Bool) (xs : List X) → ((x : X) → p x ≡ q x) → list_any p xs ≡ list_any q xs
any_alike p q xs same = any_same p q xs (every_one _ same xs)

-- a test that does not look at the element stands before the walk
pub any_both : {X : Type 0} (t : Bool) (p : X → Bool) (xs : List X) → list_any (λ x. t && p x) xs ≡ (t && list_any p xs)
any_both true p xs = refl
any_both {X} false p xs = none xs
  where
    none : (ys : List X) → list_any (λ (y : X). false) ys ≡ false
    none [] = refl
    none (y ∷ ys) = none ys

-- one of two tests passes
any_or : {X : Type 0} (p q : X → Bool) (xs : List X) → list_any (λ x. p x || q x) xs ≡ (list_any p xs || list_any q xs)
any_or p q [] = refl
any_or p q (x ∷ xs) = ap (λ t. (p x || q x) || t) (any_or p q xs) ∙ four (p x) (q x) (list_any p xs) (list_any q xs)
  where
    four : (a b c d : Bool) → ((a || b) || (c || d)) ≡ ((a || c) || (b || d))
    four true b c d = refl
    four false true true d = refl
    four false true false d = refl
    four false false true d = refl
    four false false false d = refl

-- a walk over two lists may go over either one first
pub any_turned : {X Y : Type 0} (f : X → Y → Bool) (xs : List X) (ys : List Y) → list_any (λ x. list_any (f x) ys) xs ≡ list_any (λ y. list_any (λ x. f x y) xs) ys
any_turned {Y = Y} f [] ys = none ys
  where
    none : (zs : List Y) → false ≡ list_any (λ (z : Y). false) zs
    none [] = refl
    none (z ∷ zs) = none zs
any_turned f (x ∷ xs) ys = ap (λ t. list_any (f x) ys || t) (any_turned f xs ys) ∙ sym (any_or (f x) (λ y. list_any (λ z. f z y) xs) ys)

-- none up to the end passes
pub any_done : {X : Type 0} (p : X → Bool) (xs : List X) (i : ℕ) → list_any p (take i xs) ≡ false → length xs ≤ i → list_any p xs ≡ false
any_done {X} p xs i none all = subst (λ (ys : List X). list_any p ys ≡ false) (take_all i xs all) none

-- at least one is counted where one passes
pub counts_one : {X : Type 0} (p : X → Bool) (xs : List X) → leb 1 (how_many p xs) ≡ list_any p xs
counts_one p [] = refl
counts_one p (x ∷ xs) = step (p x) (how_many p xs) (counts_one p xs)
  where
    step : (t : Bool) (n : ℕ) → leb 1 n ≡ list_any p xs → leb 1 (cond t 1 0 + n) ≡ (t || list_any p xs)
    step true n rest = le-leb 1 (1 + n) (omega arith)
    step false n rest = let same : 0 + n ≡ n = omega arith in ap (leb 1) same ∙ rest

pub keeps_one : {X : Type 0} (p : X → Bool) (xs : List X) → leb 1 (length (filter p xs)) ≡ list_any p xs
keeps_one p [] = refl
keeps_one p (x ∷ xs) = step (p x) (keeps_one p xs)
  where
    step : (t : Bool) → leb 1 (length (filter p xs)) ≡ list_any p xs → leb 1 (length (cond t (x ∷ filter p xs) (filter p xs))) ≡ (t || list_any p xs)
    step true rest = le-leb 1 (suc (length (filter p xs))) (omega arith)
    step false rest = rest

-- one at a place passes, or none at any place
pub any_one : {X : Type 0} (p : X → Bool) (xs : List X) (k : ℕ) → option_map p (slice_get xs k) ≡ Some true → list_any p xs ≡ true
any_one p [] k here = cc
any_one p (x ∷ xs) zero here = rw (same_Some (p x) true here) refl
any_one p (x ∷ xs) (suc k) here = later (p x) (any_one p xs k here)
  where
    later : (t : Bool) → list_any p xs ≡ true → (t || list_any p xs) ≡ true
    later true rest = refl
    later false rest = rest

pub any_none : {X : Type 0} (p : X → Bool) (xs : List X) → ((k : ℕ) → option_map p (slice_get xs k) ≡ Some true → ⊥) → list_any p xs ≡ false
any_none p [] none = refl
any_none p (x ∷ xs) none = first (p x) refl (any_none p xs (λ k. none (suc k)))
  where
    first : (t : Bool) → p x ≡ t → list_any p xs ≡ false → (t || list_any p xs) ≡ false
    first true is rest = absurd (none 0 (ap Some is))
    first false is rest = rest

-- ---- the first that passes

module _ {X Y : Type 0} (f : X → Y) (q : Y → Bool) where
  -- where none before a place passes and the one there does
  pub first_found : (xs : List X) (i : ℕ) (x : X) → list_any (λ y. q (f y)) (take i xs) ≡ false → i < length xs → get_or xs i x ≡ x → q (f x) ≡ true → first_of (filter q (map f xs)) ≡ Some (f x)
  first_found [] i x none inside at is = absurd (omega (arith, inside))
  first_found (y ∷ xs) zero x none inside at is = rw (ap (λ z. q (f z)) at ∙ is) (ap (λ z. Some (f z)) at)
  first_found (y ∷ xs) (suc i) x none inside at is = step (q (f y)) none (λ rest. first_found xs i x rest (omega (arith, inside)) at is)
    where
      step : (t : Bool) → (t || list_any (λ z. q (f z)) (take i xs)) ≡ false → (list_any (λ z. q (f z)) (take i xs) ≡ false → first_of (filter q (map f xs)) ≡ Some (f x)) → first_of (cond t (f y ∷ filter q (map f xs)) (filter q (map f xs))) ≡ Some (f x)
      step true none rest = cc
      step false none rest = rest none

  none_found : (xs : List X) → list_any (λ y. q (f y)) xs ≡ false → filter q (map f xs) ≡ []
  none_found [] none = refl
  none_found (y ∷ xs) none = step (q (f y)) none (none_found xs)
    where
      step : (t : Bool) → (t || list_any (λ z. q (f z)) xs) ≡ false → (list_any (λ z. q (f z)) xs ≡ false → filter q (map f xs) ≡ []) → cond t (f y ∷ filter q (map f xs)) (filter q (map f xs)) ≡ []
      step true none rest = cc
      step false none rest = rest none

  -- where none passes up to the end
  pub first_none : (xs : List X) (i : ℕ) → list_any (λ y. q (f y)) (take i xs) ≡ false → length xs ≤ i → first_of (filter q (map f xs)) ≡ None
  first_none xs i none all = ap first_of (none_found xs (subst (λ (ys : List X). list_any (λ y. q (f y)) ys ≡ false) (take_all i xs all) none))
