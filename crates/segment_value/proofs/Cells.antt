-- The numbers among the cells, as a loop goes on.
use Rattle.std.proofs.Common.{◌≡◌, ℕ, ◌+◌, ◌<◌, List, [], ◌∷◌, ◌++◌, length, get_or, take, Option, None, Some, refl, ◌∙◌, ap, arith, ℤ, subst, All, Contains, zero, suc}
use Rattle.std.specs.Option.{option_to_list}
use Rattle.std.proofs.lemmas.List.{append-nil, get_or_push, take_more, get_or_append_left, length_push}
use Rattle.std.proofs.lemmas.List.Elements.{filter_map-append}
use Rattle.segment_value.specs.Scales.{numbers_in}

numbers_in-one : (cell : Option ℤ) → numbers_in (cell ∷ []) ≡ option_to_list cell
numbers_in-one None = refl
numbers_in-one (Some n) = refl

pub numbers_in-more : (cells : List (Option ℤ)) (i : ℕ) (cell : Option ℤ) → i < length cells → get_or cells i None ≡ cell → numbers_in (take (i + 1) cells) ≡ numbers_in (take i cells) ++ option_to_list cell
numbers_in-more cells i cell there e =
    ap numbers_in (take_more cells i None there)
    ∙ filter_map-append (λ c. c) (take i cells) (get_or cells i None ∷ [])
    ∙ ap (λ c. numbers_in (take i cells) ++ c) (ap (λ c. numbers_in (c ∷ [])) e ∙ numbers_in-one cell)

pub numbers_in-null : (cells : List (Option ℤ)) (i : ℕ) → i < length cells → get_or cells i None ≡ None → numbers_in (take (i + 1) cells) ≡ numbers_in (take i cells)
numbers_in-null cells i there e = numbers_in-more cells i None there e ∙ append-nil (numbers_in (take i cells))

Contains-cons : {X : Type 0} (x y : X) (xs : List X) → Contains xs y → Contains (x ∷ xs) y
Contains-cons x y xs (k, l, e) = (suc k, omega arith, e)

-- the numbers are those of the cells
pub number_from_cell : (cells : List (Option ℤ)) (n : ℤ) → Contains cells (Some n) → Contains (numbers_in cells) n
number_from_cell [] n (k, l, e) = absurd (omega arith)
number_from_cell (None ∷ cells) n (zero, l, e) = cc
number_from_cell (None ∷ cells) n (suc k, l, e) = number_from_cell cells n (k, omega arith, e)
number_from_cell (Some m ∷ cells) n (zero, l, e) = (0, omega arith, cc)
number_from_cell (Some m ∷ cells) n (suc k, l, e) = Contains-cons m n (numbers_in cells) (number_from_cell cells n (k, omega arith, e))

pub cell_from_number : (cells : List (Option ℤ)) (n : ℤ) → Contains (numbers_in cells) n → Contains cells (Some n)
cell_from_number [] n (k, l, e) = absurd (omega arith)
cell_from_number (None ∷ cells) n h = Contains-cons None (Some n) cells (cell_from_number cells n h)
cell_from_number (Some m ∷ cells) n (zero, l, e) = (0, omega arith, ap Some e)
cell_from_number (Some m ∷ cells) n (suc k, l, e) = Contains-cons (Some m) (Some n) cells (cell_from_number cells n (k, omega arith, e))

pub All-front : {X : Type 0} (P : X → Type 0) (xs : List X) (y : X) → All P (xs ++ y ∷ []) → All P xs
All-front P xs y all = λ k d l. subst P (get_or_append_left xs (y ∷ []) d k l) (all k d (omega (arith, length_push xs y)))

pub All-last : {X : Type 0} (P : X → Type 0) (xs : List X) (y : X) → All P (xs ++ y ∷ []) → P y
All-last P xs y all = subst P (get_or_push xs y y (length xs) refl) (all (length xs) y (omega (arith, length_push xs y)))
