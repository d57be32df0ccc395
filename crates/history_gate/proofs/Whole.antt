-- A pass that has all numbers, and whose lists are those of what it has seen, has seen all.
use Rattle.std.proofs.Common.{◌≡◌, ℕ, zero, suc, ◌<◌, ◌==◌, cond, List, [], ◌∷◌, ◌++◌, length, get_or, refl, sym, ap, ◌∙◌, subst, arith, eq-eqb, All, Contains, length-append}
use Rattle.std.proofs.lemmas.List.{append-nil}
use Rattle.std.proofs.lemmas.List.Elements.{filter-append}
use mathlib.Core.List.{IsPrefix}
use Rattle.history_gate.specs.Histories.{entries_of, Tells, own_numbers}

module _ {E : Type 0} (number : E → ℕ) where
  -- the list of a number that a pass has
  told_at : (own : List (ℕ × List E)) (history : List E) (k d : ℕ) → k < length (own_numbers own) → Tells number own history → (p : ℕ × List E) × (get_or (own_numbers own) k d ≡ p.0)
  told_at [] history k d lt h = absurd (omega arith)
  told_at (p ∷ own) history zero d lt h = (p, refl)
  told_at (p ∷ own) history (suc k) d lt h = told_at own history k d (omega arith) (λ j c l. h (suc j) c (omega arith))

  both_tell : (own : List (ℕ × List E)) (seen history : List E) (k d : ℕ) → k < length (own_numbers own) → Tells number own seen → Tells number own history
      → entries_of number (get_or (own_numbers own) k d) history ≡ entries_of number (get_or (own_numbers own) k d) seen
  both_tell [] seen history k d lt h g = absurd (omega arith)
  both_tell (p ∷ own) seen history zero d lt h g = sym (g 0 p (omega arith)) ∙ h 0 p (omega arith)
  both_tell (p ∷ own) seen history (suc k) d lt h g = both_tell own seen history k d (omega arith) (λ j c l. h (suc j) c (omega arith)) (λ j c l. g (suc j) c (omega arith))

  nothing_after : (seen rest : List E) (own : List (ℕ × List E)) → Tells number own seen → Tells number own (seen ++ rest) → All (λ e. Contains (own_numbers own) (number e)) (seen ++ rest) → rest ≡ []
  nothing_after seen [] own h g others = refl
  nothing_after seen (e ∷ rest) own h g others =
      let k : ℕ = length seen in
      let at : get_or (seen ++ e ∷ rest) k e ≡ e = here seen e rest in
      let has : Contains (own_numbers own) (number e) = subst (λ x. Contains (own_numbers own) (number x)) at (others k e (omega (arith, length-append seen (e ∷ rest)))) in
      let same : entries_of number (number e) (seen ++ e ∷ rest) ≡ entries_of number (number e) seen = subst (λ n. entries_of number n (seen ++ e ∷ rest) ≡ entries_of number n seen) has.2 (both_tell own seen (seen ++ e ∷ rest) has.0 (number e) has.1 h g) in
      let split : entries_of number (number e) (seen ++ e ∷ rest) ≡ entries_of number (number e) seen ++ entries_of number (number e) (e ∷ rest) = filter-append (λ x. number x == number e) seen (e ∷ rest) in
      let front : entries_of number (number e) (e ∷ rest) ≡ e ∷ entries_of number (number e) rest = ap (λ b. cond b (e ∷ entries_of number (number e) rest) (entries_of number (number e) rest)) (eq-eqb (number e) (number e) refl) in
      absurd (omega (arith, ap length same, ap length split, ap length front, length-append (entries_of number (number e) seen) (entries_of number (number e) (e ∷ rest))))
    where
      here : (xs : List E) (x : E) (ys : List E) → get_or (xs ++ x ∷ ys) (length xs) x ≡ x
      here [] x ys = refl
      here (z ∷ xs) x ys = here xs x ys

  pub seen_all : (own : List (ℕ × List E)) (seen history : List E) → Tells number own seen → Tells number own history → IsPrefix seen history → All (λ e. Contains (own_numbers own) (number e)) history → history ≡ seen
  seen_all own seen history h g p others =
      let rest = nothing_after seen p.0 own h (subst (Tells number own) (sym p.1) g) (subst (All (λ e. Contains (own_numbers own) (number e))) (sym p.1) others) in
      sym p.1 ∙ (ap (λ l. seen ++ l) rest ∙ append-nil seen)
