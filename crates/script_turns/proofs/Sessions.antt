-- The sessions of a script: at most 64 numbers from 1 to 64, each once.
use Rattle.std.proofs.Common.{◌≡◌, ℕ, zero, suc, ◌+◌, ◌<◌, ◌≤◌, List, ◌∷◌, length, sym, subst, ◌∙◌, cond, Bool, true, false, arith, All}
use Rattle.std.specs.Prelude.{filter}
use Rattle.std.proofs.lemmas.List.Elements.{All-nil, All-cons}
use Rattle.log_laws.specs.Laws.{AreDistinct}
use Rattle.script_reader.specs.declared.script.Script.{Script}
use Rattle.script_reader.specs.declared.script.Step.{Step}
use Rattle.script_reader.specs.Scripts.{numbers, is_named, sessions_of, IsRunnable}

-- ---- some of so many numbers from one on

module _ (p : ℕ → Bool) where
  not_below : (low from n : ℕ) → low ≤ from → All (λ s. low ≤ s) (filter p (numbers from n))
  not_below low from zero le = All-nil (λ s. low ≤ s)
  not_below low from (suc n) le = at (p from) (not_below low (from + 1) n (omega (arith, le)))
    where
      at : (t : Bool) → All (λ s. low ≤ s) (filter p (numbers (from + 1) n)) → All (λ s. low ≤ s) (cond t (from ∷ filter p (numbers (from + 1) n)) (filter p (numbers (from + 1) n)))
      at true rest = All-cons (λ s. low ≤ s) from (filter p (numbers (from + 1) n)) le rest
      at false rest = rest

  all_below : (high from n : ℕ) → from + n ≤ high → All (λ s. s < high) (filter p (numbers from n))
  all_below high from zero le = All-nil (λ s. s < high)
  all_below high from (suc n) le = at (p from) (all_below high (from + 1) n (omega (arith, le)))
    where
      at : (t : Bool) → All (λ s. s < high) (filter p (numbers (from + 1) n)) → All (λ s. s < high) (cond t (from ∷ filter p (numbers (from + 1) n)) (filter p (numbers (from + 1) n)))
      at true rest = All-cons (λ s. s < high) from (filter p (numbers (from + 1) n)) (omega (arith, le)) rest
      at false rest = rest

  at_most : (from n : ℕ) → length (filter p (numbers from n)) ≤ n
  at_most from zero = omega arith
  at_most from (suc n) = at (p from) (at_most (from + 1) n)
    where
      at : (t : Bool) → length (filter p (numbers (from + 1) n)) ≤ n → length (cond t (from ∷ filter p (numbers (from + 1) n)) (filter p (numbers (from + 1) n))) ≤ suc n
      at true rest = omega (arith, rest)
      at false rest = omega (arith, rest)

  distinct : (from n : ℕ) → AreDistinct (filter p (numbers from n))
  distinct from zero = tt
  distinct from (suc n) = at (p from) (distinct (from + 1) n)
    where
      at : (t : Bool) → AreDistinct (filter p (numbers (from + 1) n)) → AreDistinct (cond t (from ∷ filter p (numbers (from + 1) n)) (filter p (numbers (from + 1) n)))
      at true rest = (λ k d lt same. let later = not_below (from + 1) (from + 1) n (omega arith) k d lt in omega (arith, later, same), rest)
      at false rest = rest

-- ---- the sessions of a script

sessions_are : (steps : List Step) → sessions_of steps ≡ filter (is_named steps) (numbers 1 64)
unfolding sessions_of
sessions_are steps = λ i. filter (is_named steps) (numbers 1 64)

named : (script : Script) → IsRunnable script → script.sessions ≡ filter (is_named script.lines) (numbers 1 64)
named script run = run.sessions ∙ sessions_are script.lines

-- each has a number below 65
pub sessions_below : (script : Script) → IsRunnable script → All (λ session. session < 65) script.sessions
sessions_below script run = subst (All (λ session. session < 65)) (sym (named script run)) (all_below (is_named script.lines) 65 1 64 (omega arith))

-- there are at most 64 of them
pub sessions_few : (script : Script) → IsRunnable script → length script.sessions ≤ 64
sessions_few script run = subst (λ sessions. length sessions ≤ 64) (sym (named script run)) (at_most (is_named script.lines) 1 64)

-- each stands once
pub sessions_distinct : (script : Script) → IsRunnable script → AreDistinct script.sessions
sessions_distinct script run = subst AreDistinct (sym (named script run)) (distinct (is_named script.lines) 1 64)
