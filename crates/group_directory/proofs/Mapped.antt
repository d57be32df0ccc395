-- Lists that are made of others element by element: what is kept, found and counted of them.
use Rattle.std.proofs.Common.{◌≡◌, ℕ, zero, suc, ◌<◌, ◌+◌, Bool, true, false, cond, List, [], ◌∷◌, map, filter, length, get_or, set, not, Some, refl, sym, ap, ◌∙◌, arith}
use Rattle.std.specs.List.{All, count_by}
use Rattle.std.proofs.lemmas.List.Sums.{sum_by-cons}
use Rattle.std.proofs.lemmas.List.{map-set, set-get_or}
use Rattle.group_book.specs.Book.{how_many}
use Rattle.group_book.specs.Choices.{first_of}

pub filter-map : {X Y : Type 0} (p : Y → Bool) (f : X → Y) (xs : List X) → filter p (map f xs) ≡ map f (filter (λ x. p (f x)) xs)
filter-map p f [] = refl
filter-map p f (x ∷ xs) = step (p (f x)) (filter-map p f xs)
  where
    step : (t : Bool) → filter p (map f xs) ≡ map f (filter (λ y. p (f y)) xs) → cond t (f x ∷ filter p (map f xs)) (filter p (map f xs)) ≡ map f (cond t (x ∷ filter (λ y. p (f y)) xs) (filter (λ y. p (f y)) xs))
    step true rest = ap (λ ys. f x ∷ ys) rest
    step false rest = rest

-- what passes, and what does not, are all
pub how_many-gone : {X : Type 0} (p : X → Bool) (xs : List X) → how_many p xs + length (filter (λ x. not (p x)) xs) ≡ length xs
how_many-gone p [] = refl
how_many-gone p (x ∷ xs) = step (p x) (how_many-gone p xs)
  where
    step : (t : Bool) → how_many p xs + length (filter (λ y. not (p y)) xs) ≡ length xs → (cond t 1 0 + how_many p xs) + length (cond (not t) (x ∷ filter (λ y. not (p y)) xs) (filter (λ y. not (p y)) xs)) ≡ suc (length xs)
    step true rest = omega (arith, rest)
    step false rest = omega (arith, rest)

-- one element changes, and what is made of it does not
pub map-set_alike : {X Y : Type 0} (f : X → Y) (xs : List X) (i : ℕ) (d y : X) → f y ≡ f (get_or xs i d) → map f (set xs i y) ≡ map f xs
map-set_alike f xs i d y e = map-set f xs i y ∙ ap (λ z. set (map f xs) i z) e ∙ sym (map-set f xs i (get_or xs i d)) ∙ ap (map f) (set-get_or xs i d)

-- the first that passes is the first one of those that pass
pub first-filter : {X : Type 0} (p : X → Bool) (xs : List X) (i : ℕ) (d : X) → i < length xs → p (get_or xs i d) ≡ true → ((k : ℕ) → k < i → p (get_or xs k d) ≡ false) → first_of (filter p xs) ≡ Some (get_or xs i d)
first-filter p [] i d inside here before = absurd (omega (arith, inside))
first-filter p (x ∷ xs) zero d inside here before = rw here refl
first-filter p (x ∷ xs) (suc i) d inside here before =
    let no : p x ≡ false = before 0 (omega arith) in
    rw no (first-filter p xs i d (omega (arith, inside)) here (λ k lt. before (suc k) (omega (arith, lt))))

pub filter-none : {X : Type 0} (p : X → Bool) (xs : List X) → All (λ x. p x ≡ false) xs → filter p xs ≡ []
filter-none p [] all = refl
filter-none p (x ∷ xs) all =
    let no : p x ≡ false = all 0 x (omega arith) in
    rw no (filter-none p xs (λ k d lt. all (suc k) d (omega (arith, lt))))

pub counted : {X : Type 0} (p : X → Bool) (xs : List X) → count_by p xs ≡ how_many p xs
counted p [] = refl
counted p (x ∷ xs) = sum_by-cons (λ y. cond (p y) 1 0) x xs ∙ ap (λ n. cond (p x) 1 0 + n) (counted p xs)

-- where none passes, none goes
pub filter-stays : {X : Type 0} (p : X → Bool) (xs : List X) → All (λ x. p x ≡ false) xs → filter (λ x. not (p x)) xs ≡ xs
filter-stays p [] all = refl
filter-stays p (x ∷ xs) all =
    let no : p x ≡ false = all 0 x (omega arith) in
    rw no (ap (λ ys. x ∷ ys) (filter-stays p xs (λ k d lt. all (suc k) d (omega (arith, lt)))))
