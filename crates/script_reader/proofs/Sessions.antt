-- The sessions that steps name.
use Rattle.std.proofs.Common.{◌≡◌, ℕ, zero, suc, ◌+◌, ◌-◌, ◌<◌, ◌≤◌, List, [], ◌∷◌, ◌++◌, refl, sym, ap, subst, ◌∙◌, cond, Bool, true, false, arith}
use Rattle.std.proofs.lemmas.Bool.{eqb-true, eqb-false, eq-eqb}
use Rattle.std.proofs.lemmas.List.Elements.{filter-append, Contains-append_right}
use Rattle.std.proofs.lemmas.List.Folds.{list_any-from_Any}
use Rattle.std.specs.Prelude.{◌==◌, filter, Contains}
use Rattle.cs_model.specs.declared.work.Actor.{Actor}
use Rattle.cs_model.specs.declared.work.Actor.TheVariants.{Session, Mover}
use Rattle.group_book.specs.Turns.{same_actor}
use Rattle.script_reader.specs.declared.script.Step.{Step}
use Rattle.script_reader.specs.Scripts.{taken_by, is_by, numbers, is_named, sessions_of, IsServed}

numbers_more : (from n : ℕ) → numbers from (suc n) ≡ numbers from n ++ (from + n) ∷ []
numbers_more from zero = ap (λ k. k ∷ []) (omega arith)
numbers_more from (suc n) = ap (λ ks. from ∷ ks) (numbers_more (from + 1) n ∙ ap (λ k. numbers (from + 1) n ++ k ∷ []) (omega arith))

kept_more : (p : ℕ → Bool) (n : ℕ) (t : Bool) → p (suc n) ≡ t → filter p (numbers 1 (suc n)) ≡ filter p (numbers 1 n) ++ cond t (suc n ∷ []) []
kept_more p n t e =
    ap (filter p) (numbers_more 1 n ∙ ap (λ k. numbers 1 n ++ k ∷ []) (omega arith)) ∙ filter-append p (numbers 1 n) (suc n ∷ []) ∙ ap (λ b. filter p (numbers 1 n) ++ cond b (suc n ∷ []) []) e

-- with one more session
pub sessions_more : (p : ℕ → Bool) (session : ℕ) (t : Bool) (old new : List ℕ) → 1 ≤ session → p session ≡ t → old ≡ filter p (numbers 1 (session - 1)) → new ≡ old ++ cond t (session ∷ []) [] → new ≡ filter p (numbers 1 (session + 1 - 1))
sessions_more p zero t old new low e before is = absurd (omega arith)
sessions_more p (suc n) t old new low e before is =
    let this : suc n - 1 ≡ n = omega arith in
    let next : suc n ≡ suc n + 1 - 1 = omega arith in
    is ∙ ap (λ xs. xs ++ cond t (suc n ∷ []) []) (before ∙ ap (λ k. filter p (numbers 1 k)) this) ∙ sym (kept_more p n t e) ∙ ap (λ k. filter p (numbers 1 k)) next

-- all up to 64
pub sessions_all : (steps : List Step) (end : ℕ) (sessions : List ℕ) → sessions ≡ filter (is_named steps) (numbers 1 (end - 1)) → end ≡ 65 → sessions ≡ sessions_of steps
unfolding sessions_of
sessions_all steps end sessions is last = is ∙ ap (λ k. filter (is_named steps) (numbers 1 (k - 1))) last

pub sessions_are : (steps : List Step) → filter (is_named steps) (numbers 1 64) ≡ sessions_of steps
unfolding sessions_of
sessions_are steps = refl

-- an actor of scripts, by its number
abbrev pub InRange : Actor → Type 0
InRange (Session n) = (1 ≤ n) × (n ≤ 64)
InRange (Mover n) = (1 ≤ n) × (n ≤ 8)

found_among : (p : ℕ → Bool) (from n k : ℕ) → from ≤ k → k < from + n → p k ≡ true → Contains (filter p (numbers from n)) k
found_among p from zero k l h e = absurd (omega arith)
found_among p from (suc n) k l h e = at (from == k) refl (λ more. found_among p (from + 1) n k more (omega arith) e)
  where
    rest : List ℕ
    rest = filter p (numbers (from + 1) n)

    later : (t : Bool) → Contains rest k → Contains (cond t (from ∷ rest) rest) k
    later true has = Contains-append_right (from ∷ []) rest k has
    later false has = has

    at : (t : Bool) → (from == k) ≡ t → (from + 1 ≤ k → Contains rest k) → Contains (cond (p from) (from ∷ rest) rest) k
    at true same has = let is : from ≡ k = eqb-true from k same in subst (λ b. Contains (cond b (from ∷ rest) rest) k) (sym (ap p is ∙ e)) (0, omega arith, is)
    at false same has = let other = eqb-false from k same in later (p from) (has (grind arith))

-- who takes one of the steps is served
pub served_among : (steps : List Step) (step : Step) (actor : Actor) → Contains steps step → taken_by step ≡ actor → InRange actor → IsServed (sessions_of steps) actor
served_among steps step (Session n) has by range = (
  range.0,
  range.1,
  subst (λ ks. Contains ks n) (sessions_are steps)
      (found_among (is_named steps) 1 64 n range.0 (omega (arith, range.1)) (list_any-from_Any (is_by (Session n)) steps (has.0, step, has.1, has.2, ap (λ a. same_actor a (Session n)) by ∙ eq-eqb n n refl))),
)
served_among steps step (Mover n) has by range = range
