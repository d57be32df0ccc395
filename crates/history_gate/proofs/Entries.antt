-- The entries with one number, as the history grows.
use Rattle.std.proofs.Common.{◌≡◌, ◌≢◌, ℕ, zero, suc, ◌<◌, ◌≤◌, ◌==◌, Bool, true, false, cond, List, [], ◌∷◌, ◌++◌, get_or, refl, sym, ap, ◌∙◌, subst, ⊎_elim, arith, ne_eqb, All, append_assoc}
use Rattle.std.proofs.lemmas.List.{append-nil}
use Rattle.std.proofs.lemmas.List.Elements.{filter-append, All-push}
use mathlib.Core.List.{IsPrefix}
use Rattle.history_gate.specs.Histories.{own_numbers, entries_of, Tells, added, Grows}
use Rattle.history_gate.specs.Views.{times, recounted}
use Rattle.history_gate.proofs.Numbers.{times_at, times_contained, times_own}

pub prefix_self : {A : Type 0} (xs : List A) → IsPrefix xs xs
prefix_self xs = ([], append-nil xs)

module _ {E : Type 0} (number : E → ℕ) where
  pub numbers_recounted : (history : List E) (own : List (ℕ × List E)) → own_numbers (recounted number history own) ≡ own_numbers own
  numbers_recounted history [] = refl
  numbers_recounted history (p ∷ own) = ap (λ ns. p.0 ∷ ns) (numbers_recounted history own)

  pub recounted_so : (history : List E) (own : List (ℕ × List E)) → All (λ p. p.1 ≡ entries_of number p.0 history) (recounted number history own)
  recounted_so history [] k d lt = absurd (omega arith)
  recounted_so history (p ∷ own) zero d lt = refl
  recounted_so history (p ∷ own) (suc k) d lt = recounted_so history own k d (omega arith)

  pub entries_push : (n : ℕ) (history : List E) (e : E) → number e ≢ n → entries_of number n (history ++ e ∷ []) ≡ entries_of number n history
  entries_push n history e ne = filter-append (λ x. number x == n) history (e ∷ []) ∙ ap (λ b. entries_of number n history ++ cond b (e ∷ []) []) (ne_eqb (number e) n ne) ∙ append-nil (entries_of number n history)

  -- the entries with another number stay
  pub others_stay : (own : List ℕ) (l l' : List E) → Grows number own l l' → (n : ℕ) → times n own ≡ 0 → entries_of number n l' ≡ entries_of number n l
  others_stay own l l' g n none_of = ⊎_elim (λ same. ap (entries_of number n) same)
      (λ t. let e : E = t.0 in ap (entries_of number n) t.1 ∙ entries_push n l e (λ is. let one : 1 ≤ times n own = subst (λ z. 1 ≤ times z own) is (times_contained own (number e) t.2) in omega arith)) g

  pub own_stays : (l l' : List E) (own : List (ℕ × List E)) → ((n : ℕ) → 1 ≤ times n (own_numbers own) → entries_of number n l' ≡ entries_of number n l)
      → All (λ p. p.1 ≡ entries_of number p.0 l) own → All (λ p. p.1 ≡ entries_of number p.0 l') own
  own_stays l l' own same h k d lt = h k d lt ∙ sym (same (get_or own k d).0 (times_own own k d lt))

  pub reserve_stays : (l l' : List E) (ns : List ℕ) → ((n : ℕ) → 1 ≤ times n ns → entries_of number n l' ≡ entries_of number n l)
      → All (λ n. entries_of number n l ≡ []) ns → All (λ n. entries_of number n l' ≡ []) ns
  reserve_stays l l' ns same h k d lt = same (get_or ns k d) (times_at ns k d lt) ∙ h k d lt

  pub grows_prefix : (own : List ℕ) (seen l l' : List E) → Grows number own l l' → IsPrefix seen l → IsPrefix seen l'
  grows_prefix own seen l l' g p = ⊎_elim (λ same. (p.0, p.1 ∙ sym same)) (λ t. (p.0 ++ t.0 ∷ [], sym (append_assoc seen p.0 (t.0 ∷ [])) ∙ ap (λ z. z ++ t.0 ∷ []) p.1 ∙ sym t.1)) g

  pub grows_below : (own : List ℕ) (m : ℕ) (l l' : List E) → Grows number own l l' → ((n : ℕ) → 1 ≤ times n own → n < m) → All (λ e. number e < m) l → All (λ e. number e < m) l'
  grows_below own m l l' g low h = ⊎_elim (λ same. subst (All (λ e. number e < m)) (sym same) h)
      (λ t. subst (All (λ e. number e < m)) (sym t.1) (All-push (λ e. number e < m) l t.0 h (low (number t.0) (times_contained own (number t.0) t.2)))) g

  -- each list anew, where the history is as before
  pub recounted_same : (l : List E) (own : List (ℕ × List E)) → Tells number own l → recounted number l own ≡ own
  recounted_same l [] h = refl
  recounted_same l (p ∷ own) h =
      let one : entries_of number p.0 l ≡ p.1 = sym (h 0 p (omega arith)) in
      let rest = recounted_same l own (λ k d lt. h (suc k) d (omega arith)) in
      λ i. (p.0, one i) ∷ rest i

  push_or : (b : Bool) (xs : List E) (e : E) → xs ++ cond b (e ∷ []) [] ≡ cond b (xs ++ e ∷ []) xs
  push_or true xs e = refl
  push_or false xs e = append-nil xs

  -- and where it has one entry more
  pub recounted_more : (l : List E) (e : E) (own : List (ℕ × List E)) → Tells number own l → recounted number (l ++ e ∷ []) own ≡ added number e own
  recounted_more l e [] h = refl
  recounted_more l e (p ∷ own) h =
      let one : entries_of number p.0 l ≡ p.1 = sym (h 0 p (omega arith)) in
      let rest = recounted_more l e own (λ k d lt. h (suc k) d (omega arith)) in
      let whole = filter-append (λ x. number x == p.0) l (e ∷ []) ∙ ap (λ xs. xs ++ cond (number e == p.0) (e ∷ []) []) one ∙ push_or (number e == p.0) p.1 e in
      λ i. (p.0, whole i) ∷ rest i
