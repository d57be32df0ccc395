-- The list that a pass keeps of one number.
use Rattle.std.proofs.Common.{◌≡◌, ◌≢◌, ℕ, suc, ◌++◌, ◌==◌, cond, Bool, true, false, List, [], ◌∷◌, refl, sym, ap, ◌∙◌, subst, arith, eq-eqb, ne_eqb, Contains}
use mathlib.Core.Logic.{dite}
use Rattle.std.specs.Bool.{MatchBool, if◌then◌else◌}
use native.Mathlib.Decide.{ℕ_discrete}
use Rattle.history_gate.specs.Histories.{entries_of, Tells, own_numbers, added, list_of}
use Rattle.history_gate.proofs.Numbers.{Contains-else}

module _ {E : Type 0} (number : E → ℕ) where
  -- it is that of the history's entries
  pub list_told : (n : ℕ) (own : List (ℕ × List E)) (history : List E) → Tells number own history → Contains (own_numbers own) n → entries_of number n history ≡ list_of n own
  list_told n [] history h c = absurd (let l = c.1 in omega arith)
  list_told n (p ∷ ps) history h c = dite (ℕ_discrete p.0 n)
      (λ e. subst (λ b. entries_of number n history ≡ cond b p.1 (list_of n ps)) (sym (eq-eqb p.0 n e)) (ap (λ k. entries_of number k history) (sym e) ∙ sym (h 0 p (omega arith))))
      (λ ne. subst (λ b. entries_of number n history ≡ cond b p.1 (list_of n ps)) (sym (ne_eqb p.0 n ne)) (list_told n ps history (λ k d lt. h (suc k) d (omega arith)) (Contains-else p.0 n (own_numbers ps) ne c)))

  -- an entry goes to the end of its number's list
  pub list_added : (e : E) (own : List (ℕ × List E)) → Contains (own_numbers own) (number e) → list_of (number e) (added number e own) ≡ list_of (number e) own ++ e ∷ []
  list_added e [] c = absurd (let l = c.1 in omega arith)
  list_added e (p ∷ ps) c = dite (ℕ_discrete p.0 (number e))
      (λ is. (λ i. cond (eq-eqb p.0 (number e) is i) (cond (eq-eqb (number e) p.0 (sym is) i) (p.1 ++ e ∷ []) p.1) (list_of (number e) (added number e ps))) ∙ ap (λ b. cond b p.1 (list_of (number e) ps) ++ e ∷ []) (sym (eq-eqb p.0 (number e) is)))
      (λ ne. ap (λ b. cond b (cond (number e == p.0) (p.1 ++ e ∷ []) p.1) (list_of (number e) (added number e ps))) (ne_eqb p.0 (number e) ne)
      ∙ (list_added e ps (Contains-else p.0 (number e) (own_numbers ps) ne c) ∙ ap (λ b. cond b p.1 (list_of (number e) ps) ++ e ∷ []) (sym (ne_eqb p.0 (number e) ne))))

  -- and to no other
  pub list_else : (n : ℕ) (e : E) (own : List (ℕ × List E)) → number e ≢ n → list_of n (added number e own) ≡ list_of n own
  list_else n e [] ne = refl
  list_else n e (p ∷ ps) ne = dite (ℕ_discrete p.0 n)
      (λ is. (λ i. cond (eq-eqb p.0 n is i) (cond (ne_eqb (number e) p.0 (λ h. ne (h ∙ is)) i) (p.1 ++ e ∷ []) p.1) (list_of n (added number e ps))) ∙ ap (λ b. cond b p.1 (list_of n ps)) (sym (eq-eqb p.0 n is)))
      (λ not. ap (λ b. cond b (cond (number e == p.0) (p.1 ++ e ∷ []) p.1) (list_of n (added number e ps))) (ne_eqb p.0 n not) ∙ (list_else n e ps ne ∙ ap (λ b. cond b p.1 (list_of n ps)) (sym (ne_eqb p.0 n not))))

  pub numbers_added : (e : E) (own : List (ℕ × List E)) → own_numbers (added number e own) ≡ own_numbers own
  numbers_added e [] = refl
  numbers_added e (p ∷ ps) = ap (λ ns. p.0 ∷ ns) (numbers_added e ps)

  -- what a section does to the list of its number, by the clauses of `leave`: b says whether it added the entry
  pub section_list : (b : Bool) (found now : List E) (before after : List (ℕ × List E)) (e : E) → Contains (own_numbers before) (number e) → now ≡ (if b then found ++ e ∷ [] else found) → (now ≡ found → after ≡ before)
      → ((d : E) → now ≡ found ++ d ∷ [] → after ≡ added number d before) → MatchBool b (list_of (number e) after ≡ list_of (number e) before ++ e ∷ []) (list_of (number e) after ≡ list_of (number e) before)
  section_list true found now before after e c is none one = ap (list_of (number e)) (one e is) ∙ list_added e before c
  section_list false found now before after e c is none one = ap (list_of (number e)) (none is)

  -- and to its numbers
  pub section_numbers : (b : Bool) (found now : List E) (before after : List (ℕ × List E)) (e : E) → now ≡ (if b then found ++ e ∷ [] else found) → (now ≡ found → after ≡ before)
      → ((d : E) → now ≡ found ++ d ∷ [] → after ≡ added number d before) → own_numbers after ≡ own_numbers before
  section_numbers true found now before after e is none one = ap own_numbers (one e is) ∙ numbers_added e before
  section_numbers false found now before after e is none one = ap own_numbers (none is)
