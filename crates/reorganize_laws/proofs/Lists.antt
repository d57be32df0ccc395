-- Lists, what is in them, and counts of numbers.
use Rattle.std.proofs.Common.{◌≡◌, ℕ, zero, suc, ◌+◌, ◌<◌, ◌≤◌, ◌⊎◌, inl, inr, Bool, true, false, ◌||◌, cond, List, [], ◌∷◌, map, filter, refl, sym, ap, subst, ◌∙◌, arith}
use Rattle.std.specs.Prelude.{◌==◌, Contains}
use Rattle.std.specs.List.{list_any}
use Rattle.std.proofs.lemmas.Bool.Decides.{nat_tests}
use Rattle.std.proofs.lemmas.List.Elements.{Contains-append_right, Contains-push_cases, Contains-append_cases}
use Rattle.group_book.specs.Book.{how_many}
use Rattle.group_book.proofs.Lists.{counted, list_any-some}

-- ---- what is in a list

pub in_none : {X : Type 0} (x : X) → Contains [] x → ⊥
in_none x c = let lt = c.1 in omega (arith, lt)

pub in_head : {X : Type 0} (x : X) (xs : List X) → Contains (x ∷ xs) x
in_head x xs = (0, omega arith, refl)

pub in_tail : {X : Type 0} (y : X) (xs : List X) (x : X) → Contains xs x → Contains (y ∷ xs) x
in_tail y xs x c = Contains-append_right (y ∷ []) xs x c

pub in_cases : {X : Type 0} (y : X) (xs : List X) (x : X) → Contains (y ∷ xs) x → (y ≡ x) ⊎ Contains xs x
in_cases y xs x c = elim (Contains-append_cases (y ∷ []) xs x c) [
  | inl first ↦ elim (Contains-push_cases [] y x first) [ inl none ↦ absurd (in_none x none) | inr same ↦ inl same ]
  | inr later ↦ inr later
]

pub in_filter : {X : Type 0} (p : X → Bool) (xs : List X) (x : X) → Contains xs x → p x ≡ true → Contains (filter p xs) x
in_filter p [] x c is = c
in_filter p (y ∷ ys) x c is = step (p y) refl (in_filter p ys x)
  where
    step : (t : Bool) → p y ≡ t → (Contains ys x → p x ≡ true → Contains (filter p ys) x) → Contains (cond t (y ∷ filter p ys) (filter p ys)) x
    step true t_is rest = elim (in_cases y ys x c) [
      | inl same ↦ subst (Contains (y ∷ filter p ys)) same (in_head y (filter p ys))
      | inr later ↦ in_tail y (filter p ys) x (rest later is)
    ]
    step false t_is rest = elim (in_cases y ys x c) [
      | inl same ↦ let wrong : p x ≡ false = subst (λ z. p z ≡ false) same t_is in cc
      | inr later ↦ rest later is
    ]

pub from_filter : {X : Type 0} (p : X → Bool) (xs : List X) (x : X) → Contains (filter p xs) x → Contains xs x × (p x ≡ true)
from_filter p [] x c = absurd (in_none x c)
from_filter p (y ∷ ys) x c = step (p y) refl (from_filter p ys x) c
  where
    step : (t : Bool) → p y ≡ t → (Contains (filter p ys) x → Contains ys x × (p x ≡ true)) → Contains (cond t (y ∷ filter p ys) (filter p ys)) x → Contains (y ∷ ys) x × (p x ≡ true)
    step true t_is rest c = elim (in_cases y (filter p ys) x c) [
      | inl same ↦ subst (λ z. Contains (y ∷ ys) z × (p z ≡ true)) same (in_head y ys, t_is)
      | inr later ↦ let found = rest later in (in_tail y ys x found.0, found.1)
    ]
    step false t_is rest c = let found = rest c in (in_tail y ys x found.0, found.1)

pub in_map : {X Y : Type 0} (f : X → Y) (xs : List X) (x : X) → Contains xs x → Contains (map f xs) (f x)
in_map f [] x c = absurd (in_none x c)
in_map f (y ∷ ys) x c = elim (in_cases y ys x c) [
  | inl same ↦ subst (λ z. Contains (f y ∷ map f ys) (f z)) same (in_head (f y) (map f ys))
  | inr later ↦ in_tail (f y) (map f ys) (f x) (in_map f ys x later)
]

pub from_map : {X Y : Type 0} (f : X → Y) (xs : List X) (y : Y) → Contains (map f xs) y → (x : X) × Contains xs x × (f x ≡ y)
from_map f [] y c = absurd (in_none y c)
from_map f (x ∷ xs) y c = elim (in_cases (f x) (map f xs) y c) [
  | inl same ↦ (x, in_head x xs, same)
  | inr later ↦ let found = from_map f xs y later in (found.0, in_tail x xs found.0 found.1, found.2)
]

pub any_in : {X : Type 0} (p : X → Bool) (xs : List X) → list_any p xs ≡ true → (x : X) × Contains xs x × (p x ≡ true)
any_in p [] is = cc
any_in p (x ∷ xs) is = step (p x) refl is (any_in p xs)
  where
    step : (t : Bool) → p x ≡ t → (t || list_any p xs) ≡ true → (list_any p xs ≡ true → (y : _) × Contains xs y × (p y ≡ true)) → (y : _) × Contains (x ∷ xs) y × (p y ≡ true)
    step true t_is is rest = (x, in_head x xs, t_is)
    step false t_is is rest = let found = rest is in (found.0, in_tail x xs found.0 found.1, found.2)

pub in_any : {X : Type 0} (p : X → Bool) (xs : List X) (x : X) → Contains xs x → p x ≡ true → list_any p xs ≡ true
in_any p xs x c is = list_any-some p xs c.0 x c.1 (rw c.2 is)

-- at most one element passes
pub only_one : {X : Type 0} (p : X → Bool) (xs : List X) (x y : X) → how_many p xs ≤ 1 → Contains xs x → Contains xs y → p x ≡ true → p y ≡ true → x ≡ y
only_one p [] x y le cx cy px py = absurd (in_none x cx)
only_one p (z ∷ zs) x y le cx cy px py = step (p z) refl le (in_cases z zs x cx) (in_cases z zs y cy) (only_one p zs x y)
  where
    step : (t : Bool) → p z ≡ t → cond t 1 0 + how_many p zs ≤ 1 → (z ≡ x) ⊎ Contains zs x → (z ≡ y) ⊎ Contains zs y
        → (how_many p zs ≤ 1 → Contains zs x → Contains zs y → p x ≡ true → p y ≡ true → x ≡ y) → x ≡ y
    step true t_is le (inl a) (inl b) rest = sym a ∙ b
    step true t_is le (inl a) (inr later) rest = absurd (omega (arith, le, counted p zs y later py))
    step true t_is le (inr later) b rest = absurd (omega (arith, le, counted p zs x later px))
    step false t_is le (inl a) b rest = let wrong : p x ≡ false = subst (λ w. p w ≡ false) a t_is in cc
    step false t_is le (inr x_in) (inl b) rest = let wrong : p y ≡ false = subst (λ w. p w ≡ false) b t_is in cc
    step false t_is le (inr x_in) (inr y_in) rest = rest (omega (arith, le)) x_in y_in px py

-- ---- maps and filters

pub map_filter : {X Y : Type 0} (f : X → Y) (p : X → Bool) (q : Y → Bool) → ((x : X) → p x ≡ q (f x)) → (xs : List X) → map f (filter p xs) ≡ filter q (map f xs)
map_filter f p q same [] = refl
map_filter f p q same (x ∷ xs) = step (p x) (q (f x)) (same x) (map_filter f p q same xs)
  where
    step : (t u : Bool) → t ≡ u → map f (filter p xs) ≡ filter q (map f xs) → map f (cond t (x ∷ filter p xs) (filter p xs)) ≡ cond u (f x ∷ filter q (map f xs)) (filter q (map f xs))
    step true true e rest = ap (λ l. f x ∷ l) rest
    step true false e rest = cc
    step false true e rest = cc
    step false false e rest = rest

-- what f shows of a changed element is what k makes of what it shows of the element
pub map_changed : {X Y : Type 0} (f : X → Y) (h : X → X) (k : Y → Y) → ((x : X) → f (h x) ≡ k (f x)) → (xs : List X) → map f (map h xs) ≡ map k (map f xs)
map_changed f h k same [] = refl
map_changed f h k same (x ∷ xs) = rw (same x, map_changed f h k same xs) refl

pub map_kept : {X Y : Type 0} (f : X → Y) (h : X → X) → ((x : X) → f (h x) ≡ f x) → (xs : List X) → map f (map h xs) ≡ map f xs
map_kept f h same [] = refl
map_kept f h same (x ∷ xs) = rw (same x, map_kept f h same xs) refl

pub any_map : {X Y : Type 0} (f : X → Y) (p : X → Bool) (q : Y → Bool) → ((x : X) → p x ≡ q (f x)) → (xs : List X) → list_any p xs ≡ list_any q (map f xs)
any_map f p q same [] = refl
any_map f p q same (x ∷ xs) = rw (same x, any_map f p q same xs) refl

-- ---- counts of numbers

-- how many numbers below n pass the test
abbrev pub count_below : (ℕ → Bool) → ℕ → ℕ
count_below test zero = 0
count_below test (suc n) = cond (test n) 1 0 + count_below test n

pub count_falls : (p q : ℕ → Bool) (n : ℕ) → ((i : ℕ) → i < n → p i ≡ true → q i ≡ true) → count_below p n ≤ count_below q n
count_falls p q zero h = omega arith
count_falls p q (suc n) h = step (p n) (q n) (h n (omega arith)) (count_falls p q n (λ i lt. h i (omega (arith, lt))))
  where
    step : (s t : Bool) → (s ≡ true → t ≡ true) → count_below p n ≤ count_below q n → cond s 1 0 + count_below p n ≤ cond t 1 0 + count_below q n
    step true true h le = omega (arith, le)
    step true false h le = let wrong = h refl in cc
    step false true h le = omega (arith, le)
    step false false h le = omega (arith, le)

pub count_drops : (p q : ℕ → Bool) (n j : ℕ) → ((i : ℕ) → i < n → p i ≡ true → q i ≡ true) → j < n → p j ≡ false → q j ≡ true → count_below p n + 1 ≤ count_below q n
count_drops p q zero j h lt fails passes = absurd (omega (arith, lt))
count_drops p q (suc n) j h lt fails passes = here (n == j) refl (λ apart. count_drops p q n j (λ i less. h i (omega (arith, less))) apart fails passes)
  where
    fewer : count_below p n ≤ count_below q n
    fewer = count_falls p q n (λ i lt. h i (omega (arith, lt)))

    at_last : (s t : Bool) → s ≡ false → t ≡ true → (cond s 1 0 + count_below p n) + 1 ≤ cond t 1 0 + count_below q n
    at_last true t s_is t_is = cc
    at_last false true s_is t_is = omega (arith, fewer)
    at_last false false s_is t_is = cc

    step : (s t : Bool) → (s ≡ true → t ≡ true) → count_below p n + 1 ≤ count_below q n → (cond s 1 0 + count_below p n) + 1 ≤ cond t 1 0 + count_below q n
    step true true h le = omega (arith, le)
    step true false h le = let wrong = h refl in cc
    step false true h le = omega (arith, le)
    step false false h le = omega (arith, le)

    here : (t : Bool) → (n == j) ≡ t → (j < n → count_below p n + 1 ≤ count_below q n) → (cond (p n) 1 0 + count_below p n) + 1 ≤ cond (q n) 1 0 + count_below q n
    here true is rest = let e : j ≡ n = grind (arith, nat_tests) in at_last (p n) (q n) (subst (λ i. p i ≡ false) e fails) (subst (λ i. q i ≡ true) e passes)
    here false is rest = let apart : j < n = grind (arith, nat_tests) in step (p n) (q n) (h n (omega arith)) (rest apart)

-- where one number's answer is another
pub count_changed : (p : ℕ → Bool) (a : ℕ) (b : Bool) (n : ℕ) → count_below (λ i. cond (a == i) b (p i)) n ≤ cond b 1 0 + count_below p n
count_changed p a b zero = omega arith
count_changed p a b (suc n) = step (a == n) refl (count_changed p a b n)
  where
    others : (a == n) ≡ true → count_below (λ i. cond (a == i) b (p i)) n ≤ count_below p n
    others is = count_falls (λ i. cond (a == i) b (p i)) p n (λ i lt. other i lt (a == i) refl)
      where
        other : (i : ℕ) → i < n → (t : Bool) → (a == i) ≡ t → cond t b (p i) ≡ true → p i ≡ true
        other i lt true same passes = let e : a ≡ n = grind (arith, nat_tests) in let f : a ≡ i = grind (arith, nat_tests) in absurd (omega (arith, e, f, lt))
        other i lt false same passes = passes

    step : (t : Bool) → (a == n) ≡ t → count_below (λ i. cond (a == i) b (p i)) n ≤ cond b 1 0 + count_below p n
        → cond (cond t b (p n)) 1 0 + count_below (λ i. cond (a == i) b (p i)) n ≤ cond b 1 0 + (cond (p n) 1 0 + count_below p n)
    step true is le = let few = others is in omega (arith, few)
    step false is le = omega (arith, le)
