-- What the actors hold is what was lent to them, one event more.
use Rattle.std.proofs.Common.{◌≡◌, ◌+◌, List, [], ◌∷◌, ◌++◌, refl, sym, ap, subst, ◌∙◌, cond, Bool, true, false, arith, eq-eqb, ne_eqb, eqb-true}
use mathlib.Core.Logic.{dite}
use native.Mathlib.Decide.{ℕ_discrete}
use Rattle.std.specs.Prelude.{Option, None, Some, IsSome, ◌==◌}
use Rattle.cs_model.specs.declared.work.Actor.{Actor}
use Rattle.cs_model.specs.declared.work.Actor.TheVariants.{Session, Mover}
use Rattle.cs_model.specs.Actors.{number_of}
use Rattle.group_book.specs.Turns.{same_actor}
use Rattle.group_directory.specs.Claiming.{IsShareOf}
use Rattle.group_directory.specs.Installing.{held_by}
use Rattle.group_view.specs.declared.claim.Claim.{Claim}
use Rattle.group_view.specs.declared.claim.Product.{Product}
use Rattle.group_view.specs.Claims.{IsProductOf}
use Rattle.statement_core.specs.Movers.{IsMended}
use Rattle.statement_core.proofs.Holding.{Held, without, held_more, none_left, others_left}
use Rattle.session_pool.specs.declared.event.Event.{Event}
use Rattle.session_pool.specs.Events.{number_in, events_by, held_in, IsLentAs, IsNumbered, AreLent}
use Rattle.session_pool.proofs.Events.{held_push}

-- ---- what is lent is held

pub lent_free : (o : Option Held) (l : Option Claim) → IsLentAs o l → l ≡ None → o ≡ None
lent_free None l h e = refl
lent_free (Some held) None h e = absurd h
lent_free (Some held) (Some lent) h e = absurd (cc e)

pub lent_held : (o : Option Held) (l : Option Claim) → IsLentAs o l → IsSome l → IsSome o
lent_held None None h e = absurd (cc e)
lent_held None (Some lent) h e = absurd h
lent_held (Some held) l h e = refl

pub lent_mended : (o : Option Held) (l : Option Claim) (lent : Claim) (product : Product) → IsLentAs o l → l ≡ Some lent → IsProductOf lent product → IsMended o product
lent_mended None None lent product h e made = absurd (cc e)
lent_mended None (Some claim) lent product h e made = absurd h
lent_mended (Some held) None lent product h e made = absurd h
lent_mended (Some held) (Some claim) lent product h e made = (claim, h, let same : claim ≡ lent = cc e in subst (λ x. IsProductOf x product) (sym same) made)

-- ---- actors and their numbers

same_is : (by other : Actor) → same_actor by other ≡ true → by ≡ other
same_is (Session m) (Session n) e = ap Session (eqb-true m n e)
same_is (Session m) (Mover n) e = absurd (cc e)
same_is (Mover m) (Session n) e = absurd (cc e)
same_is (Mover m) (Mover n) e = ap Mover (eqb-true m n e)

-- two actors have two numbers
same_number : (by other : Actor) → IsNumbered by → IsNumbered other → (number_of by == number_of other) ≡ same_actor by other
same_number (Session m) (Session n) known there = refl
same_number (Session m) (Mover n) known there = ne_eqb m (64 + n) (λ is. omega (arith, known, there, is))
same_number (Mover m) (Session n) known there = ne_eqb (64 + m) n (λ is. omega (arith, known, there, is))
same_number (Mover m) (Mover n) known there = dite (ℕ_discrete m n)
    (λ e. eq-eqb (64 + m) (64 + n) (ap (λ k. 64 + k) e) ∙ sym (eq-eqb m n e))
    (λ ne. ne_eqb (64 + m) (64 + n) (λ all. let same : m ≡ n = omega (arith, all) in ne same) ∙ sym (ne_eqb m n ne))

-- ---- one event more

module _ (claims : List Held) (events : List Event) (e : Event) (are : AreLent claims events) (by : Actor) (known : IsNumbered by) (number : number_in e ≡ number_of by) where
  after : (other : Actor) → IsNumbered other → held_in (events_by (number_of other) (events ++ e ∷ [])) ≡ cond (same_actor by other) e.lent (held_in (events_by (number_of other) events))
  after other there =
      held_push (number_of other) events e
      ∙ ap (λ b. cond b e.lent (held_in (events_by (number_of other) events))) (ap (λ n. n == number_of other) number ∙ same_number by other known there)

  -- who has no number is another
  apart : (other : Actor) → (IsNumbered other → ⊥) → same_actor by other ≡ false
  apart other none = at (same_actor by other) refl
    where
      at : (t : Bool) → same_actor by other ≡ t → t ≡ false
      at true is = absurd (none (subst IsNumbered (same_is by other is) known))
      at false is = refl

  -- one that lends nothing, where the actor held nothing
  pub lent_alone : e.lent ≡ None → held_in (events_by (number_of by) events) ≡ None → AreLent claims (events ++ e ∷ [])
  lent_alone lends free = record {
    lent = λ other there. subst (IsLentAs (held_by other claims)) (sym (after other there ∙ at other (same_actor by other) refl)) (are.lent other there);
    others = are.others;
  }
    where
      at : (other : Actor) (t : Bool) → same_actor by other ≡ t → cond t e.lent (held_in (events_by (number_of other) events)) ≡ held_in (events_by (number_of other) events)
      at other true is = lends ∙ (sym free ∙ ap (λ a. held_in (events_by (number_of a) events)) (same_is by other is))
      at other false is = refl

  -- one that lends a share of a new claim
  pub lent_new : (new : List Held) (kept claim : Claim) → e.lent ≡ Some claim → new ≡ (by, kept) ∷ claims → IsShareOf kept claim → AreLent new (events ++ e ∷ [])
  lent_new new kept claim lends is share = record {
    lent = λ other there. subst (IsLentAs (held_by other new)) (sym (after other there))
        (subst (λ o. IsLentAs o (cond (same_actor by other) e.lent (held_in (events_by (number_of other) events)))) (sym (holds other)) (at other there (same_actor by other)));
    others = λ other none. holds other ∙ (ap (λ t. cond t (Some (by, kept)) (held_by other claims)) (apart other none) ∙ are.others other none);
  }
    where
      holds : (other : Actor) → held_by other new ≡ cond (same_actor by other) (Some (by, kept)) (held_by other claims)
      holds other = ap (held_by other) is ∙ held_more other (by, kept) claims (same_actor by other) refl

      at : (other : Actor) → IsNumbered other → (t : Bool) → IsLentAs (cond t (Some (by, kept)) (held_by other claims)) (cond t e.lent (held_in (events_by (number_of other) events)))
      at other there true = subst (IsLentAs (Some (by, kept))) (sym lends) share
      at other there false = are.lent other there

  -- one that ends a turn
  pub lent_over : (new : List Held) → e.lent ≡ None → new ≡ without by claims → AreLent new (events ++ e ∷ [])
  lent_over new lends is = record {
    lent = λ other there. subst (IsLentAs (held_by other new)) (sym (after other there)) (at other there (same_actor by other) refl);
    others = λ other none. ap (held_by other) is ∙ (others_left by other claims (apart other none) ∙ are.others other none);
  }
    where
      over : (other : Actor) → same_actor by other ≡ true → held_by other new ≡ None
      over other same = ap (λ a. held_by a new) (sym (same_is by other same)) ∙ (ap (held_by by) is ∙ none_left by claims)

      at : (other : Actor) → IsNumbered other → (t : Bool) → same_actor by other ≡ t → IsLentAs (held_by other new) (cond t e.lent (held_in (events_by (number_of other) events)))
      at other there true same = subst (λ (z : Option Held × Option Claim). IsLentAs z.0 z.1) (λ i. (sym (over other same) i, sym lends i)) tt
      at other there false same =
          subst (λ o. IsLentAs o (held_in (events_by (number_of other) events))) (sym (ap (held_by other) is ∙ others_left by other claims same)) (are.lent other there)
