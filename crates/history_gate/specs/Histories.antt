-- A history, and the lists of its entries by their numbers.
use Rattle.std.specs.Prelude.{ℕ, ◌≡◌, refl, ◌==◌, ◌⊎◌, if◌then◌else◌, List, [], ◌∷◌, ◌++◌, map, filter, All, Contains}

-- the list without the first n in it
abbrev pub without : ℕ → List ℕ → List ℕ
without n [] = []
without n (x ∷ xs) = if x == n then xs else x ∷ without n xs

module _ {E : Type 0} where
  -- the numbers that have a list
  abbrev pub own_numbers : List (ℕ × List E) → List ℕ
  own_numbers own = map (λ p. p.0) own

  -- the list of a number, empty where it has none
  abbrev pub list_of : ℕ → List (ℕ × List E) → List E
  list_of n [] = []
  list_of n (p ∷ own) = if p.0 == n then p.1 else list_of n own

module _ {E : Type 0} (number : E → ℕ) where
  -- the entries with a number, in order
  abbrev pub entries_of : ℕ → List E → List E
  entries_of n history = filter (λ e. number e == n) history

  -- each list is that of the history's entries with its number
  abbrev pub Tells : List (ℕ × List E) → List E → Type 0
  Tells own history = All (λ p. p.1 ≡ entries_of p.0 history) own

  -- the entry stands at the end of its number's list, and the others are as before
  abbrev pub added : E → List (ℕ × List E) → List (ℕ × List E)
  added e own = map (λ p. (p.0, if number e == p.0 then p.1 ++ e ∷ [] else p.1)) own

  -- the history is as before, or has one entry more at its end, with one of these numbers
  abbrev pub Grows : List ℕ → List E → List E → Type 0
  Grows numbers before after = (after ≡ before) ⊎ ((e : E) × (after ≡ before ++ e ∷ []) × Contains numbers (number e))

-- worked: of three entries, each with its maker and a note, two are maker 1's
abbrev pub two_entries : entries_of (λ (e : ℕ × ℕ). e.0) 1 ((1, 7) ∷ (2, 8) ∷ (1, 9) ∷ []) ≡ (1, 7) ∷ (1, 9) ∷ []
two_entries = refl

-- worked: an entry of maker 2 goes to the second list
abbrev pub second_grows : added (λ (e : ℕ × ℕ). e.0) (2, 8) ((1, (1, 7) ∷ []) ∷ (2, []) ∷ []) ≡ (1, (1, 7) ∷ []) ∷ (2, (2, 8) ∷ []) ∷ []
second_grows = refl
