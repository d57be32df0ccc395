-- The numbers that passes have, through splits and joins: what `close` asks for.
use Rattle.std.proofs.Common.{◌≡◌, ◌≢◌, ℕ, ◌-◌, ◌<◌, ◌⊎◌, List, [], ◌∷◌, ◌++◌, sym, refl, ap, ◌∙◌, subst, inl, inr, ⊎_elim, arith, Contains}
use mathlib.Core.Logic.{dite}
use mathlib.Core.List.{map-append}
use native.Mathlib.Decide.{ℕ_discrete}
use Rattle.std.specs.List.{range_with_len}
use Rattle.std.proofs.lemmas.List.Elements.{Contains-append_left, Contains-append_right, Contains-append_cases}
use Rattle.history_gate.specs.Histories.{own_numbers, without}
use Rattle.history_gate.specs.Passes.{PassState, HasNumber, KeepsNumbers}
use Rattle.history_gate.proofs.Numbers.{Contains-range, Contains-without}

-- two lists joined have what stands in the parts of either
in_both : (a b c d : List ℕ) (n : ℕ) → Contains (a ++ c) n ⊎ Contains (b ++ d) n → Contains ((a ++ b) ++ (c ++ d)) n
in_both a b c d n has =
    let front : Contains (a ++ b) n → Contains ((a ++ b) ++ (c ++ d)) n = Contains-append_left (a ++ b) (c ++ d) n in
    let back : Contains (c ++ d) n → Contains ((a ++ b) ++ (c ++ d)) n = Contains-append_right (a ++ b) (c ++ d) n in
    ⊎_elim (λ (h : Contains (a ++ c) n). ⊎_elim (λ x. front (Contains-append_left a b n x)) (λ x. back (Contains-append_left c d n x)) (Contains-append_cases a c n h))
    (λ (h : Contains (b ++ d) n). ⊎_elim (λ x. front (Contains-append_right a b n x)) (λ x. back (Contains-append_right c d n x)) (Contains-append_cases b d n h)) has

module _ {E : Type 0} where
  -- the first pass of a gate has every number
  pub first_has_all : (seats : ℕ) (pass : PassState E) → pass.own ≡ (0, []) ∷ [] → pass.reserve ≡ range_with_len 1 (seats - 1) → (n : ℕ) → n < seats → HasNumber pass n
  first_has_all seats pass own reserve n lt = subst (λ (z : List (ℕ × List E) × List ℕ). Contains (own_numbers z.0 ++ z.1) n) (λ i. (sym own i, sym reserve i)) (dite (ℕ_discrete 0 n)
      (λ e. (0, omega arith, e))
      (λ ne. Contains-append_right (0 ∷ []) (range_with_len 1 (seats - 1)) n (Contains-range n 1 (seats - 1) (omega arith) (omega arith))))

  -- a pass with one number has it
  pub has_one : (n : ℕ) (pass : PassState E) → own_numbers pass.own ≡ n ∷ [] → HasNumber pass n
  has_one n pass one = subst (λ ns. Contains (ns ++ pass.reserve) n) (sym one) (0, omega arith, refl)

  pub keeps_itself : (pass : PassState E) → KeepsNumbers pass pass
  keeps_itself pass n has = has

  pub keeps_on : (p q r : PassState E) → KeepsNumbers p q → KeepsNumbers q r → KeepsNumbers p r
  keeps_on p q r first second n has = second n (first n has)

  -- a number that was not split off stays
  left_has : (m n : ℕ) (pass left : PassState E) → left.own ≡ pass.own → left.reserve ≡ without m pass.reserve → m ≢ n → HasNumber pass n → HasNumber left n
  left_has m n pass left own reserve ne has = subst (λ (z : List (ℕ × List E) × List ℕ). Contains (own_numbers z.0 ++ z.1) n) (λ i. (sym own i, sym reserve i))
      (⊎_elim (Contains-append_left (own_numbers pass.own) (without m pass.reserve) n)
      (λ c. Contains-append_right (own_numbers pass.own) (without m pass.reserve) n (Contains-without m n pass.reserve ne c))
      (Contains-append_cases (own_numbers pass.own) pass.reserve n has))

  -- a joined pass has the numbers of both
  pub joined_has : (pass other both : PassState E) (n : ℕ) → both.own ≡ pass.own ++ other.own → both.reserve ≡ pass.reserve ++ other.reserve → HasNumber pass n ⊎ HasNumber other n → HasNumber both n
  joined_has pass other both n own reserve has = subst (λ (z : List ℕ × List ℕ). Contains (z.0 ++ z.1) n) (λ i. (sym (ap own_numbers own ∙ map-append (λ p. p.0) pass.own other.own) i, sym reserve i))
      (in_both (own_numbers pass.own) (own_numbers other.own) pass.reserve other.reserve n has)

  -- a number is split off and joined again, after both passes have kept what they had
  pub keeps_round : (m : ℕ) (pass left back mine home : PassState E) → left.own ≡ pass.own → left.reserve ≡ without m pass.reserve → KeepsNumbers left back → HasNumber mine m
      → home.own ≡ back.own ++ mine.own → home.reserve ≡ back.reserve ++ mine.reserve → KeepsNumbers pass home
  keeps_round m pass left back mine home own reserve kept has owns reserves n it = joined_has back mine home n owns reserves (dite (ℕ_discrete m n)
      (λ e. inr (subst (HasNumber mine) e has))
      (λ ne. inl (kept n (left_has m n pass left own reserve ne it))))
