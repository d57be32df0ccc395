-- Lines that ask for whole steps are good after a setup line, and leave nothing half done.
use Rattle.std.proofs.Common.{◌≡◌, ℕ, ◌≤◌, List, [], ◌∷◌, ◌++◌, map, length, refl, sym, ap, subst, ◌∙◌, append_assoc, append-nil, Bool, true, false, not, arith}
use Rattle.std.proofs.lemmas.Bool.{le-ltb}
use Rattle.std.specs.Prelude.{None, Some}
use Rattle.std.specs.List.{cons_option}
use Rattle.cs_model.specs.declared.work.Actor.{Actor}
use Rattle.group_book.specs.Turns.{same_actor}
use Rattle.script_reader.specs.declared.script.Step.{Step}
use Rattle.script_reader.specs.declared.script.Step.TheVariants.{Whole, Begun, Finished, Turn, Claiming, Installing}
use Rattle.script_reader.specs.Lines.{line_reason}
use Rattle.script_reader.specs.declared.script.Mode.TheVariants.{Replay}
use Rattle.script_reader.specs.Scripts.{taken_by, is_begun, half_done, may_follow, setup_in, setups, step_in, steps_of, HasTable, IsGood, AreGood}
use Rattle.script_reader.proofs.Behind.{setups_push, steps_push}
use Rattle.script_reader.proofs.Halves.{half_same, half_other}
use Rattle.workload_laws.specs.Scripts.{is_whole}
use Rattle.workload_laws.proofs.Printed.{IsPrinted, printed_is_line}
use Rattle.workload_laws.proofs.Lines.{AsksFor}

-- ---- whole steps

abbrev NothingHalf : List Step → Type 0
NothingHalf steps = (actor : Actor) → half_done actor steps ≡ false

begins_nothing : (step : Step) → is_whole step ≡ true → is_begun (Some step) ≡ false
begins_nothing (Whole session text) e = refl
begins_nothing (Turn mover) e = refl
begins_nothing (Begun session text) e = absurd (cc)
begins_nothing (Finished session) e = refl
begins_nothing (Claiming mover) e = absurd (cc)
begins_nothing (Installing mover) e = refl

follows : (before : List Step) (step : Step) → is_whole step ≡ true → NothingHalf before → may_follow before step ≡ true
follows before (Whole session text) e none = ap not (none _)
follows before (Turn mover) e none = ap not (none _)
follows before (Begun session text) e none = absurd (cc)
follows before (Finished session) e none = absurd (cc)
follows before (Claiming mover) e none = absurd (cc)
follows before (Installing mover) e none = absurd (cc)

half_more : (before : List Step) (step : Step) → is_whole step ≡ true → NothingHalf before → NothingHalf (before ++ step ∷ [])
half_more before step whole none actor = at (same_actor (taken_by step) actor) refl
  where
    at : (t : Bool) → same_actor (taken_by step) actor ≡ t → half_done actor (before ++ step ∷ []) ≡ false
    at true same = half_same actor before step same ∙ begins_nothing step whole
    at false other = half_other actor before step other ∙ none actor

-- ---- one line

fine : (line : List ℕ) → IsPrinted line → length line ≤ 65536 → line_reason line ≡ None
fine line printed short = rw (le-ltb 65536 (length line) short, printed_is_line line printed) refl

module _ (before : List (List ℕ)) (line text : List ℕ) (step : Step) (asks : AsksFor line step) (set : setups before ≡ text ∷ []) (none : NothingHalf (steps_of before)) where
  good_line : IsGood Replay before line
  good_line = (
    rw (fine line asks.printed (omega (arith, asks.short)), asks.form, set, asks.actor, follows (steps_of before) step asks.whole none) refl,
    subst HasTable (sym asks.form) tt,
  )

  set_behind : setups (before ++ line ∷ []) ≡ text ∷ []
  set_behind = setups_push before line ∙ ap (λ f. setups before ++ cons_option (setup_in f) []) asks.form ∙ append-nil (setups before) ∙ set

  steps_behind : steps_of (before ++ line ∷ []) ≡ steps_of before ++ step ∷ []
  steps_behind = steps_push before line ∙ ap (λ f. steps_of before ++ cons_option (step_in f) []) asks.form

  none_behind : NothingHalf (steps_of (before ++ line ∷ []))
  none_behind = subst NothingHalf (sym steps_behind) (half_more (steps_of before) step asks.whole none)

-- ---- all lines

module _ (line : ℕ → List ℕ) (step : ℕ → Step) (asks : (n : ℕ) → AsksFor (line n) (step n)) where
  pub all_good : (before : List (List ℕ)) (text : List ℕ) → setups before ≡ text ∷ [] → NothingHalf (steps_of before) → (ns : List ℕ) → AreGood Replay before (map line ns)
  all_good before text set none [] = tt
  all_good before text set none (n ∷ ns) = (
    good_line before (line n) text (step n) (asks n) set none,
    all_good (before ++ line n ∷ []) text (set_behind before (line n) text (step n) (asks n) set none) (none_behind before (line n) text (step n) (asks n) set none) ns,
  )

  pub no_setups : (ns : List ℕ) → setups (map line ns) ≡ []
  no_setups [] = refl
  no_setups (n ∷ ns) = ap (λ f. cons_option (setup_in f) (setups (map line ns))) (asks n).form ∙ no_setups ns

  pub all_steps : (ns : List ℕ) → steps_of (map line ns) ≡ map step ns
  all_steps [] = refl
  all_steps (n ∷ ns) = ap (λ f. cons_option (step_in f) (steps_of (map line ns))) (asks n).form ∙ ap (λ z. step n ∷ z) (all_steps ns)

  none_from : (before : List Step) → NothingHalf before → (ns : List ℕ) → NothingHalf (before ++ map step ns)
  none_from before none [] = subst NothingHalf (sym (append-nil before)) none
  none_from before none (n ∷ ns) = subst NothingHalf (append_assoc before (step n ∷ []) (map step ns)) (none_from (before ++ step n ∷ []) (half_more before (step n) (asks n).whole none) ns)

  pub none_half : NothingHalf [] → (ns : List ℕ) → NothingHalf (map step ns)
  none_half none ns = none_from [] none ns
