-- Who holds which of the claims, where one is lent and where one is over.
use Rattle.std.proofs.Common.{◌≡◌, List, [], ◌∷◌, refl, sym, ap, ◌∙◌, cond, Bool, true, false, arith, eq-eqb}
use Rattle.std.specs.Prelude.{filter, not, None, Some}
use Rattle.std.proofs.lemmas.Bool.Decides.{nat_tests}
use Rattle.cs_model.specs.declared.work.Actor.{Actor}
use Rattle.cs_model.specs.declared.work.Actor.TheVariants.{Session, Mover}
use Rattle.group_book.specs.Choices.{first_of}
use Rattle.group_book.specs.Turns.{same_actor}
use Rattle.group_directory.specs.Installing.{held_by}
use Rattle.group_view.specs.declared.claim.Claim.{Claim}
use Rattle.statement_core.specs.declared.movers.Turned.TheVariants.{Lent}
use Rattle.statement_core.specs.Movers.{GivesTurn}

abbrev pub Held : Type 0
Held = Actor × Claim

-- the claims of all others
abbrev pub without : Actor → List Held → List Held
without by claims = filter (λ (held : Held). not (same_actor held.0 by)) claims

-- ---- actors

pub same_self : (by : Actor) → same_actor by by ≡ true
same_self (Session n) = eq-eqb n n refl
same_self (Mover n) = eq-eqb n n refl

-- nobody is two actors
pub one_actor : (is by other : Actor) → same_actor by other ≡ false → same_actor is by ≡ true → same_actor is other ≡ false
one_actor (Session x) (Session y) (Session z) apart e = grind (arith, nat_tests)
one_actor (Session x) (Session y) (Mover z) apart e = refl
one_actor (Session x) (Mover y) other apart e = absurd (cc e)
one_actor (Mover x) (Session y) other apart e = absurd (cc e)
one_actor (Mover x) (Mover y) (Session z) apart e = refl
one_actor (Mover x) (Mover y) (Mover z) apart e = grind (arith, nat_tests)

-- ---- who holds a claim

pub held_more : (by : Actor) (h : Held) (claims : List Held) (t : Bool) → same_actor h.0 by ≡ t → held_by by (h ∷ claims) ≡ cond t (Some h) (held_by by claims)
held_more by h claims true e = ap (λ b. first_of (cond b (h ∷ filter (λ (held : Held). same_actor held.0 by) claims) (filter (λ (held : Held). same_actor held.0 by) claims))) e
held_more by h claims false e = ap (λ b. first_of (cond b (h ∷ filter (λ (held : Held). same_actor held.0 by) claims) (filter (λ (held : Held). same_actor held.0 by) claims))) e

pub without_more : (by : Actor) (h : Held) (claims : List Held) (t : Bool) → same_actor h.0 by ≡ t → without by (h ∷ claims) ≡ cond t (without by claims) (h ∷ without by claims)
without_more by h claims true e = ap (λ b. cond (not b) (h ∷ without by claims) (without by claims)) e
without_more by h claims false e = ap (λ b. cond (not b) (h ∷ without by claims) (without by claims)) e

-- ---- a claim is over

pub none_left : (by : Actor) (claims : List Held) → held_by by (without by claims) ≡ None
none_left by [] = refl
none_left by (h ∷ claims) = at (same_actor h.0 by) refl (none_left by claims)
  where
    at : (t : Bool) → same_actor h.0 by ≡ t → held_by by (without by claims) ≡ None → held_by by (without by (h ∷ claims)) ≡ None
    at true e none = ap (held_by by) (without_more by h claims true e) ∙ none
    at false e none = ap (held_by by) (without_more by h claims false e) ∙ held_more by h (without by claims) false e ∙ none

pub others_left : (by other : Actor) (claims : List Held) → same_actor by other ≡ false → held_by other (without by claims) ≡ held_by other claims
others_left by other [] apart = refl
others_left by other (h ∷ claims) apart = at (same_actor h.0 by) refl (same_actor h.0 other) refl (others_left by other claims apart)
  where
    at : (t : Bool) → same_actor h.0 by ≡ t → (u : Bool) → same_actor h.0 other ≡ u → held_by other (without by claims) ≡ held_by other claims → held_by other (without by (h ∷ claims)) ≡ held_by other (h ∷ claims)
    at true e u f rest =
        ap (held_by other) (without_more by h claims true e) ∙ rest
        ∙ sym (held_more other h claims false (one_actor h.0 by other apart e))
    at false e true f rest = ap (held_by other) (without_more by h claims false e) ∙ held_more other h (without by claims) true f ∙ sym (held_more other h claims true f)
    at false e false f rest = ap (held_by other) (without_more by h claims false e) ∙ held_more other h (without by claims) false f ∙ rest ∙ sym (held_more other h claims false f)

-- who holds none takes none with it
pub none_but : (by : Actor) (claims : List Held) → held_by by claims ≡ None → without by claims ≡ claims
none_but by [] none = refl
none_but by (h ∷ claims) none = at (same_actor h.0 by) refl (none_but by claims)
  where
    at : (t : Bool) → same_actor h.0 by ≡ t → (held_by by claims ≡ None → without by claims ≡ claims) → without by (h ∷ claims) ≡ h ∷ claims
    at true e rest = absurd (let has = held_more by h claims true e in cc (has, none))
    at false e rest = without_more by h claims false e ∙ ap (λ hs. h ∷ hs) (rest (sym (held_more by h claims false e) ∙ none))

-- ---- a claim is lent

module _ (by : Actor) (old new : List Held) (claim : Claim) (gives : GivesTurn by old new (Lent claim)) where
  -- by whom it is held then
  pub holder_lent : held_by by new ≡ Some (by, gives.0)
  holder_lent = ap (held_by by) gives.1 ∙ held_more by (by, gives.0) old true (same_self by)

  -- the others hold what they held
  pub others_lent : (other : Actor) → same_actor by other ≡ false → held_by other new ≡ held_by other old
  others_lent other apart = ap (held_by other) gives.1 ∙ held_more other (by, gives.0) old false apart

  -- once it is over, all is as before
  pub lent_over : held_by by old ≡ None → without by new ≡ old
  lent_over none = ap (without by) gives.1 ∙ without_more by (by, gives.0) old true (same_self by) ∙ none_but by old none
