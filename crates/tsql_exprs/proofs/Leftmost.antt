-- The least of some places.
use Rattle.std.proofs.Common.{◌≡◌, ℕ, List, [], ◌∷◌, ◌++◌, Option, None, Some, min, refl, ap, sym, ◌∙◌, arith}
use Rattle.tsql_exprs.specs.Leftmost.{earlier, leftmost}

min_assoc : (a b c : ℕ) → min (min a b) c ≡ min a (min b c)
min_assoc a b c = omega arith

pub earlier_none : (a : Option ℕ) → earlier a None ≡ a
earlier_none None = refl
earlier_none (Some a) = refl

pub earlier_assoc : (a b c : Option ℕ) → earlier (earlier a b) c ≡ earlier a (earlier b c)
earlier_assoc None b c = refl
earlier_assoc (Some a) None c = refl
earlier_assoc (Some a) (Some b) None = refl
earlier_assoc (Some a) (Some b) (Some c) = ap Some (min_assoc a b c)

pub leftmost_append : (xs ys : List ℕ) → leftmost (xs ++ ys) ≡ earlier (leftmost xs) (leftmost ys)
leftmost_append [] ys = refl
leftmost_append (x ∷ xs) ys = ap (earlier (Some x)) (leftmost_append xs ys) ∙ sym (earlier_assoc (Some x) (leftmost xs) (leftmost ys))

pub leftmost_none : (xs : List ℕ) → leftmost xs ≡ None → xs ≡ []
leftmost_none [] e = refl
leftmost_none (x ∷ xs) e = absurd (go (leftmost xs) e)
  where
    go : (o : Option ℕ) → earlier (Some x) o ≡ None → ⊥
    go None f = cc
    go (Some y) f = cc
