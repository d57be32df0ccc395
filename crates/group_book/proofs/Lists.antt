-- Lists and counts.
use Rattle.std.proofs.Common.{◌≡◌, ℕ, zero, suc, ◌<◌, ◌≤◌, ◌+◌, Bool, true, false, ◌&&◌, ◌||◌, cond, List, [], ◌∷◌, ◌++◌, map, filter, length, get_or, refl, ap, arith}
use Rattle.std.specs.Prelude.{◌≢◌}
use Rattle.std.specs.List.{All, AllByRecursion, AllPairs, list_any, Contains}
use Rattle.std.proofs.lemmas.List.Elements.{Contains-get_or}
use Rattle.std.proofs.lemmas.List.Kept.{AllPairs-cons}
use Rattle.group_book.specs.Book.{how_many}

pub both_true : (a b : Bool) → (a && b) ≡ true → (a ≡ true) × (b ≡ true)
both_true true b h = (refl, h)
both_true false b h = cc

-- All, with the knowledge that the element is in the list
pub All-in : {X : Type 0} (P Q : X → Type 0) (xs : List X) → ((x : X) → Contains xs x → P x → Q x) → All P xs → All Q xs
All-in P Q xs h ps k d inside = h _ (Contains-get_or xs k d inside) (ps k d inside)

-- counts
pub how_many-map : {X Y : Type 0} (p : Y → Bool) (f : X → Y) (xs : List X) → how_many p (map f xs) ≡ how_many (λ x. p (f x)) xs
how_many-map p f [] = refl
how_many-map p f (x ∷ xs) = ap (λ n. cond (p (f x)) 1 0 + n) (how_many-map p f xs)

pub how_many-append : {X : Type 0} (p : X → Bool) (xs ys : List X) → how_many p (xs ++ ys) ≡ how_many p xs + how_many p ys
how_many-append p [] ys = omega arith
how_many-append p (x ∷ xs) ys = omega (arith, how_many-append p xs ys)

pub how_many-same : {X : Type 0} (p q : X → Bool) (xs : List X) → AllByRecursion (λ x. p x ≡ q x) xs → how_many p xs ≡ how_many q xs
how_many-same p q [] h = refl
how_many-same p q (x ∷ xs) h = rw (h.0, how_many-same p q xs h.1) refl

pub how_many-none : {X : Type 0} (p : X → Bool) (xs : List X) → AllByRecursion (λ x. p x ≡ false) xs → how_many p xs ≡ 0
how_many-none p [] h = refl
how_many-none p (x ∷ xs) h = rw (h.0, how_many-none p xs h.1) refl

-- one element that passes counts
pub how_many-some : {X : Type 0} (p : X → Bool) (xs : List X) (k : ℕ) (d : X) → k < length xs → p (get_or xs k d) ≡ true → 1 ≤ how_many p xs
how_many-some p [] k d inside h = absurd (omega (arith, inside))
how_many-some p (x ∷ xs) zero d inside h = rw h (omega arith)
how_many-some p (x ∷ xs) (suc k) d inside h = omega (arith, how_many-some p xs k d (omega (arith, inside)) h)

-- an element that passes
pub how_many-found : {X : Type 0} (p : X → Bool) (xs : List X) → 1 ≤ how_many p xs → (x : X) × (p x ≡ true)
how_many-found p [] h = absurd (omega (arith, h))
how_many-found p (x ∷ xs) h = step (p x) refl (how_many-found p xs) h
  where
    step : (t : Bool) → p x ≡ t → (1 ≤ how_many p xs → (y : _) × (p y ≡ true)) → 1 ≤ cond t 1 0 + how_many p xs → (y : _) × (p y ≡ true)
    step true is rest h = (x, is)
    step false is rest h = rest (omega (arith, h))

pub list_any-found : {X : Type 0} (p : X → Bool) (Q : X → Type 0) (xs : List X) → AllByRecursion Q xs → list_any p xs ≡ true → (x : X) × (p x ≡ true) × Q x
list_any-found p Q [] all h = cc
list_any-found p Q (x ∷ xs) all h = step (p x) refl (list_any-found p Q xs all.1) h
  where
    step : (t : Bool) → p x ≡ t → (list_any p xs ≡ true → (y : _) × (p y ≡ true) × Q y) → (t || list_any p xs) ≡ true → (y : _) × (p y ≡ true) × Q y
    step true is rest h = (x, is, all.0)
    step false is rest h = rest h

-- facts on a list by recursion
pub all-append : {X : Type 0} (P : X → Type 0) (xs ys : List X) → AllByRecursion P xs → AllByRecursion P ys → AllByRecursion P (xs ++ ys)
all-append P [] ys all_x all_y = all_y
all-append P (x ∷ xs) ys all_x all_y = (all_x.0, all-append P xs ys all_x.1 all_y)

pub all-left : {X : Type 0} (P : X → Type 0) (xs ys : List X) → AllByRecursion P (xs ++ ys) → AllByRecursion P xs
all-left P [] ys all = tt
all-left P (x ∷ xs) ys all = (all.0, all-left P xs ys all.1)

pub all-right : {X : Type 0} (P : X → Type 0) (xs ys : List X) → AllByRecursion P (xs ++ ys) → AllByRecursion P ys
all-right P [] ys all = all
all-right P (x ∷ xs) ys all = all-right P xs ys all.1

pub all-both : {X : Type 0} (P Q R : X → Type 0) (xs : List X) → ((x : X) → P x → Q x → R x) → AllByRecursion P xs → AllByRecursion Q xs → AllByRecursion R xs
all-both P Q R [] h ps qs = tt
all-both P Q R (x ∷ xs) h ps qs = (h x ps.0 qs.0, all-both P Q R xs h ps.1 qs.1)

-- of the elements that pass, changed by f
pub all-kept : {X : Type 0} (P Q : X → Type 0) (q : X → Bool) (f : X → X) (xs : List X) → ((x : X) → P x → q x ≡ true → Q (f x)) → AllByRecursion P xs → AllByRecursion Q (map f (filter q xs))
all-kept P Q q f [] h ps = tt
all-kept P Q q f (x ∷ xs) h ps = step (q x) refl (all-kept P Q q f xs h ps.1)
  where
    step : (t : Bool) → q x ≡ t → AllByRecursion Q (map f (filter q xs)) → AllByRecursion Q (map f (cond t (x ∷ filter q xs) (filter q xs)))
    step true is rest = (h x ps.0 is, rest)
    step false is rest = rest

pub all-filter : {X : Type 0} (P Q : X → Type 0) (q : X → Bool) (xs : List X) → ((x : X) → P x → q x ≡ true → Q x) → AllByRecursion P xs → AllByRecursion Q (filter q xs)
all-filter P Q q [] h ps = tt
all-filter P Q q (x ∷ xs) h ps = step (q x) refl (all-filter P Q q xs h ps.1)
  where
    step : (t : Bool) → q x ≡ t → AllByRecursion Q (filter q xs) → AllByRecursion Q (cond t (x ∷ filter q xs) (filter q xs))
    step true is rest = (h x ps.0 is, rest)
    step false is rest = rest

-- a count over what is kept
pub count-le : {X : Type 0} (p : X → Bool) (q : X → Bool) (f : X → X) (xs : List X) → AllByRecursion (λ x. q x ≡ true → p (f x) ≡ p x) xs → how_many p (map f (filter q xs)) ≤ how_many p xs
count-le p q f [] h = omega arith
count-le p q f (x ∷ xs) h = step (q x) refl (count-le p q f xs h.1)
  where
    step : (t : Bool) → q x ≡ t → how_many p (map f (filter q xs)) ≤ how_many p xs → how_many p (map f (cond t (x ∷ filter q xs) (filter q xs))) ≤ how_many p (x ∷ xs)
    step true is rest = rw (h.0 is) (omega (arith, rest))
    step false is rest = omega (arith, rest)

-- where all that passes is kept
pub count-all : {X : Type 0} (p : X → Bool) (q : X → Bool) (f : X → X) (xs : List X) → AllByRecursion (λ x. q x ≡ true → p (f x) ≡ p x) xs → AllByRecursion (λ x. q x ≡ false → p x ≡ false) xs → how_many p (map f (filter q xs)) ≡ how_many p xs
count-all p q f [] h g = refl
count-all p q f (x ∷ xs) h g = step (q x) refl (count-all p q f xs h.1 g.1)
  where
    step : (t : Bool) → q x ≡ t → how_many p (map f (filter q xs)) ≡ how_many p xs → how_many p (map f (cond t (x ∷ filter q xs) (filter q xs))) ≡ how_many p (x ∷ xs)
    step true is rest = rw (h.0 is, rest) refl
    step false is rest = rw (g.0 is, rest) (omega arith)

-- no element passes
pub none_pass : {X : Type 0} (p : X → Bool) (xs : List X) → list_any p xs ≡ false → AllByRecursion (λ x. p x ≡ false) xs
none_pass p [] h = tt
none_pass p (x ∷ xs) h = step (p x) refl h (none_pass p xs)
  where
    step : (t : Bool) → p x ≡ t → (t || list_any p xs) ≡ false → (list_any p xs ≡ false → AllByRecursion (λ y. p y ≡ false) xs) → (p x ≡ false) × AllByRecursion (λ y. p y ≡ false) xs
    step true is h rest = cc
    step false is h rest = (is, rest h)

pub some_pass : {X : Type 0} (p : X → Bool) (xs : List X) → list_any p xs ≡ true → 1 ≤ how_many p xs
some_pass p [] h = cc
some_pass p (x ∷ xs) h = step (p x) refl h (some_pass p xs)
  where
    step : (t : Bool) → p x ≡ t → (t || list_any p xs) ≡ true → (list_any p xs ≡ true → 1 ≤ how_many p xs) → 1 ≤ cond t 1 0 + how_many p xs
    step true is h rest = omega arith
    step false is h rest = omega (arith, rest h)

-- each element counts in its list
pub counted_all : {X : Type 0} (xs : List X) → AllByRecursion (λ x. (p : X → Bool) → p x ≡ true → 1 ≤ how_many p xs) xs
counted_all [] = tt
counted_all {X} (x ∷ xs) = (λ p h. rw h (omega arith), more xs (counted_all xs))
  where
    more : (ys : List X) → AllByRecursion (λ y. (p : X → Bool) → p y ≡ true → 1 ≤ how_many p xs) ys → AllByRecursion (λ y. (p : X → Bool) → p y ≡ true → 1 ≤ how_many p (x ∷ xs)) ys
    more [] all = tt
    more (y ∷ ys) all = (λ p h. omega (arith, all.0 p h), more ys all.1)

pub list_any-none : {X : Type 0} (p : X → Bool) (xs : List X) → AllByRecursion (λ x. p x ≡ false) xs → list_any p xs ≡ false
list_any-none p [] h = refl
list_any-none p (x ∷ xs) h = rw (h.0, list_any-none p xs h.1) refl

pub list_any-some : {X : Type 0} (p : X → Bool) (xs : List X) (k : ℕ) (d : X) → k < length xs → p (get_or xs k d) ≡ true → list_any p xs ≡ true
list_any-some p [] k d inside h = absurd (omega (arith, inside))
list_any-some p (x ∷ xs) zero d inside h = rw h refl
list_any-some p (x ∷ xs) (suc k) d inside h = rw (list_any-some p xs k d (omega (arith, inside)) h) (cases (p x))
  where
    cases : (t : Bool) → (t || true) ≡ true
    cases true = refl
    cases false = refl

pub any_same : {X : Type 0} (p q : X → Bool) (xs : List X) → AllByRecursion (λ x. p x ≡ q x) xs → list_any p xs ≡ list_any q xs
any_same p q [] all = refl
any_same p q (x ∷ xs) all = rw (all.0, any_same p q xs all.1) refl

-- what holds of each
pub every_one : {X : Type 0} (P : X → Type 0) → ((x : X) → P x) → (xs : List X) → AllByRecursion P xs
every_one P h [] = tt
every_one P h (x ∷ xs) = (h x, every_one P h xs)

pub weaker : {X : Type 0} (P Q : X → Type 0) (xs : List X) → ((x : X) → P x → Q x) → AllByRecursion P xs → AllByRecursion Q xs
weaker P Q [] h ps = tt
weaker P Q (x ∷ xs) h ps = (h x ps.0, weaker P Q xs h ps.1)

-- the count in a list of an element that passes
pub counted : {X : Type 0} (p : X → Bool) (xs : List X) (x : X) → Contains xs x → p x ≡ true → 1 ≤ how_many p xs
counted p xs x in_list passes = how_many-some p xs in_list.0 x in_list.1 (rw in_list.2 passes)

pub all-map : {X : Type 0} (P Q : X → Type 0) (f : X → X) (xs : List X) → ((x : X) → P x → Q (f x)) → AllByRecursion P xs → AllByRecursion Q (map f xs)
all-map P Q f [] h ps = tt
all-map P Q f (x ∷ xs) h ps = (h x ps.0, all-map P Q f xs h ps.1)

-- no number stands in the list twice
abbrev pub AreApart : List ℕ → Type 0
AreApart ns = AllPairs (λ x y. x ≢ y) ns

pub apart_none : AreApart []
apart_none i j d lt inside = absurd (omega (arith, lt, inside))

pub apart_head : (n : ℕ) (ns : List ℕ) → AreApart (n ∷ ns) → All (λ y. n ≢ y) ns
apart_head n ns apart k d inside = apart zero (suc k) d (omega arith) (omega (arith, inside))

pub apart_tail : (n : ℕ) (ns : List ℕ) → AreApart (n ∷ ns) → AreApart ns
apart_tail n ns apart i j d lt inside = apart (suc i) (suc j) d (omega (arith, lt)) (omega (arith, inside))

pub apart_cons : (n : ℕ) (ns : List ℕ) → All (λ y. n ≢ y) ns → AreApart ns → AreApart (n ∷ ns)
apart_cons n ns head tail = AllPairs-cons (λ x y. x ≢ y) n ns head tail
