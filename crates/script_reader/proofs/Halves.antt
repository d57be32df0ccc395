-- What is half done after one more step.
use Rattle.std.proofs.Common.{◌≡◌, ℕ, suc, ◌<◌, List, [], ◌∷◌, ◌++◌, get_or, set, refl, sym, ap, subst, ◌∙◌, cond, Bool, true, false, arith, ◌⊎◌, inl, inr, get_or-set_other, get_or-set_same}
use Rattle.std.proofs.lemmas.Bool.{eqb-true, eqb-false, leb-true, ne_eqb}
use Rattle.std.proofs.lemmas.List.{append-nil, length-set}
use Rattle.std.proofs.lemmas.List.Elements.{filter-append}
use Rattle.std.specs.Prelude.{Option, None, Some, ◌==◌, nat_le, filter, All}
use Rattle.std.specs.List.{last_or}
use Rattle.cs_model.specs.declared.work.Actor.{Actor}
use Rattle.cs_model.specs.declared.work.Actor.TheVariants.{Session, Mover}
use Rattle.group_book.specs.Turns.{same_actor}
use Rattle.script_reader.specs.declared.read.HalfDone.{HalfDone}
use Rattle.script_reader.specs.declared.script.Step.{Step}
use Rattle.script_reader.specs.Scripts.{taken_by, is_by, is_begun, half_done}
use Rattle.script_reader.specs.Reading.{HasPlace, AreMarkedFor, AreMarked}

last_push : {X : Type 0} (o : Option X) (xs : List X) (x : X) → last_or o (xs ++ x ∷ []) ≡ Some x
last_push o [] x = refl
last_push o (y ∷ ys) x = last_push (Some y) ys x

-- the steps of an actor, with one more
of_push : (actor : Actor) (steps : List Step) (step : Step) (t : Bool) → same_actor (taken_by step) actor ≡ t → filter (is_by actor) (steps ++ step ∷ []) ≡ filter (is_by actor) steps ++ cond t (step ∷ []) []
of_push actor steps step t e = filter-append (is_by actor) steps (step ∷ []) ∙ ap (λ b. filter (is_by actor) steps ++ cond b (step ∷ []) []) e

-- the step's own actor has something half done where the step begins it alone
pub half_same : (actor : Actor) (steps : List Step) (step : Step) → same_actor (taken_by step) actor ≡ true → half_done actor (steps ++ step ∷ []) ≡ is_begun (Some step)
unfolding half_done
half_same actor steps step e = ap (λ xs. is_begun (last_or None xs)) (of_push actor steps step true e) ∙ ap is_begun (last_push None (filter (is_by actor) steps) step)

-- another actor is as before
pub half_other : (actor : Actor) (steps : List Step) (step : Step) → same_actor (taken_by step) actor ≡ false → half_done actor (steps ++ step ∷ []) ≡ half_done actor steps
unfolding half_done
half_other actor steps step e = ap (λ xs. is_begun (last_or None xs)) (of_push actor steps step false e ∙ append-nil (filter (is_by actor) steps))

pub half_empty : (actor : Actor) → half_done actor [] ≡ false
unfolding half_done
half_empty actor = refl

-- an actor that takes no step has nothing half done
half_none : (actor : Actor) (steps : List Step) → All (λ step. same_actor (taken_by step) actor ≡ false) steps → half_done actor steps ≡ false
unfolding half_done
half_none actor steps all = ap (λ xs. is_begun (last_or None xs)) (none steps all)
  where
    none : (steps : List Step) → All (λ step. same_actor (taken_by step) actor ≡ false) steps → filter (is_by actor) steps ≡ []
    none [] all = refl
    none (step ∷ steps) all = ap (λ b. cond b (step ∷ filter (is_by actor) steps) (filter (is_by actor) steps)) (all 0 step (omega arith)) ∙ none steps (λ k d lt. all (suc k) d (omega arith))

-- ---- places

has_place : (actor : Actor) → HasPlace actor ⊎ (HasPlace actor → ⊥)
has_place (Session n) = at (nat_le 65 n) refl
  where
    at : (t : Bool) → nat_le 65 n ≡ t → (n < 65) ⊎ (n < 65 → ⊥)
    at true e = let high = leb-true 65 n e in inr (λ low. absurd (omega arith))
    at false e = inl (grind arith)
has_place (Mover n) = at (nat_le 9 n) refl
  where
    at : (t : Bool) → nat_le 9 n ≡ t → (n < 9) ⊎ (n < 9 → ⊥)
    at true e = let high = leb-true 9 n e in inr (λ low. absurd (omega arith))
    at false e = inl (grind arith)

-- an actor with a place is not one without
apart_placed : (a b : Actor) → HasPlace a → (HasPlace b → ⊥) → same_actor a b ≡ false
apart_placed (Session m) (Session n) placed none = ne_eqb m n (λ e. none (subst (λ k. k < 65) e placed))
apart_placed (Session m) (Mover n) placed none = refl
apart_placed (Mover m) (Session n) placed none = refl
apart_placed (Mover m) (Mover n) placed none = ne_eqb m n (λ e. none (subst (λ k. k < 9) e placed))

-- where all that take steps have places and none of them has anything half done, nobody has
pub none_half : (steps : List Step) → All (λ step. HasPlace (taken_by step)) steps → ((actor : Actor) → HasPlace actor → half_done actor steps ≡ false) → (actor : Actor) → half_done actor steps ≡ false
none_half steps placed none actor = at (has_place actor)
  where
    at : HasPlace actor ⊎ (HasPlace actor → ⊥) → half_done actor steps ≡ false
    at (inl has) = none actor has
    at (inr not) = half_none actor steps (λ k d lt. apart_placed (taken_by (get_or steps k d)) actor (placed k d lt) not)

-- ---- marks

module _ (actor : ℕ → Actor) (places : ℕ) (marks : List Bool) (steps : List Step) (step : Step) (m : AreMarkedFor actor places marks steps) where
  -- a step of the actor at this place marks it
  marked_at : (n : ℕ) → n < places → taken_by step ≡ actor n → ((k : ℕ) → same_actor (actor n) (actor k) ≡ (n == k)) → AreMarkedFor actor places (set marks n (is_begun (Some step))) (steps ++ step ∷ [])
  marked_at n low by same = (length-set marks n (is_begun (Some step)) ∙ m.0, λ k lt. at k lt (n == k) refl)
    where
      is : (k : ℕ) (t : Bool) → (n == k) ≡ t → same_actor (taken_by step) (actor k) ≡ t
      is k t e = ap (λ a. same_actor a (actor k)) by ∙ same k ∙ e

      at : (k : ℕ) → k < places → (t : Bool) → (n == k) ≡ t → get_or (set marks n (is_begun (Some step))) k false ≡ half_done (actor k) (steps ++ step ∷ [])
      at k lt true e = ap (λ j. get_or (set marks n (is_begun (Some step))) j false) (sym (eqb-true n k e)) ∙ get_or-set_same marks n (is_begun (Some step)) false (omega (arith, m.0)) ∙ sym (half_same (actor k) steps step (is k true e))
      at k lt false e = get_or-set_other marks n k (is_begun (Some step)) false (λ s. eqb-false n k e (sym s)) ∙ m.1 k lt ∙ sym (half_other (actor k) steps step (is k false e))

  -- a step of nobody who has a place here leaves the marks as they are
  marked_still : ((k : ℕ) → same_actor (taken_by step) (actor k) ≡ false) → AreMarkedFor actor places marks (steps ++ step ∷ [])
  marked_still other = (m.0, λ k lt. m.1 k lt ∙ sym (half_other (actor k) steps step (other k)))

module _ (old : HalfDone) (steps : List Step) (step : Step) (m : AreMarked old steps) (n : ℕ) where
  pub marked_session : (sessions : List Bool) → taken_by step ≡ Session n → n < 65 → sessions ≡ set old.sessions n (is_begun (Some step)) → AreMarked (record { sessions = sessions; movers = old.movers }) (steps ++ step ∷ [])
  marked_session sessions by low is = record {
    sessions = subst (λ marks. AreMarkedFor Session 65 marks (steps ++ step ∷ [])) (sym is) (marked_at Session 65 old.sessions steps step m.sessions n low by (λ k. refl));
    movers = marked_still Mover 9 old.movers steps step m.movers (λ k. ap (λ a. same_actor a (Mover k)) by);
  }

  pub marked_mover : (movers : List Bool) → taken_by step ≡ Mover n → n < 9 → movers ≡ set old.movers n (is_begun (Some step)) → AreMarked (record { sessions = old.sessions; movers = movers }) (steps ++ step ∷ [])
  marked_mover movers by low is = record {
    sessions = marked_still Session 65 old.sessions steps step m.sessions (λ k. ap (λ a. same_actor a (Session k)) by);
    movers = subst (λ marks. AreMarkedFor Mover 9 marks (steps ++ step ∷ [])) (sym is) (marked_at Mover 9 old.movers steps step m.movers n low by (λ k. refl));
  }
