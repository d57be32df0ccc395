-- What is lent stands ready, after the events of a mover's turn.
use Rattle.std.proofs.Common.{◌≡◌, ℕ, ◌<◌, List, [], refl, sym, ap, subst, ◌∙◌, cond, Bool, true, false, arith}
use Rattle.std.specs.Prelude.{Option, None, Some, ◌==◌, Result, Ok, Err, IfOk, IsSome}
use Rattle.std.proofs.lemmas.Bool.Decides.{nat_tests}
use Rattle.cs_model.specs.declared.work.Actor.{Actor}
use Rattle.cs_model.specs.declared.work.Actor.TheVariants.{Session, Mover}
use Rattle.cs_model.specs.State.{with}
use Rattle.group_directory.specs.Installing.{held_by}
use Rattle.group_view.specs.declared.claim.Claim.{Claim}
use Rattle.group_view.specs.declared.claim.Product.{Product}
use Rattle.group_view.specs.Claims.{IsProductOf}
use Rattle.script_reader.specs.Scripts.{IsServed}
use Rattle.script_runner.specs.Running.{IsReadyFor, AreReady, OthersKeep}
use Rattle.statement_core.specs.declared.movers.Turned.TheVariants.{Lent}
use Rattle.statement_core.specs.Movers.{GivesTurn, IsMended}
use Rattle.statement_core.proofs.Holding.{Held, without, none_left, others_left, holder_lent, others_lent}

-- a mover that is served has a seat
pub mover_seat : (sessions : List ℕ) (mover : ℕ) → IsServed sessions (Mover mover) → mover < 65
mover_seat sessions mover served = let high = served.1 in omega (arith, high)

-- ---- a claim is over

pub free_after : (by : Actor) (old new : List Held) → new ≡ without by old → held_by by new ≡ None
free_after by old new is = ap (held_by by) is ∙ none_left by old

pub others_after : (by : Actor) (old new : List Held) → new ≡ without by old → OthersKeep by old new
others_after by old new is = λ other apart. ap (held_by other) is ∙ others_left by other old apart

-- the mover's seat has another value, and the claims of the others stay
ready_set : (mover : ℕ) (old new : List Held) (waiting after : ℕ → Option Claim) (value : Option Claim) → AreReady old waiting → OthersKeep (Mover mover) old new → IsReadyFor (held_by (Mover mover) new) value
    → after ≡ with waiting mover value → AreReady new after
ready_set mover old new waiting after value ready others its put = record {
  movers = λ m seat. at m seat (m == mover) refl;
  sessions = λ s. others (Session s) refl ∙ ready.sessions s;
}
  where
    at : (m : ℕ) → m < 65 → (t : Bool) → (m == mover) ≡ t → IsReadyFor (held_by (Mover m) new) (after m)
    at m seat true t =
        let same : mover ≡ m = grind (arith, nat_tests) in
        let has : after m ≡ value = (λ i. put i m) ∙ ap (λ b. cond b value (waiting m)) t in
        subst (IsReadyFor (held_by (Mover m) new)) (sym has) (subst (λ n. IsReadyFor (held_by (Mover n) new) value) same its)
    at m seat false t =
        let apart : (mover == m) ≡ false = grind (arith, nat_tests) in
        let has : after m ≡ waiting m = (λ i. put i m) ∙ ap (λ b. cond b value (waiting m)) t in
        subst (IsReadyFor (held_by (Mover m) new)) (sym has) (subst (λ o. IsReadyFor o (waiting m)) (sym (others (Mover m) apart)) (ready.movers m seat))

pub ready_free : (mover : ℕ) (old new : List Held) (waiting after : ℕ → Option Claim) → AreReady old waiting → OthersKeep (Mover mover) old new → held_by (Mover mover) new ≡ None → after ≡ with waiting mover None → AreReady new after
ready_free mover old new waiting after ready others free put = ready_set mover old new waiting after None ready others (subst (λ o. IsReadyFor o None) (sym free) refl) put

-- ---- a claim is lent

pub ready_lent : (mover : ℕ) (old new : List Held) (waiting after : ℕ → Option Claim) (claim : Claim) → AreReady old waiting → GivesTurn (Mover mover) old new (Lent claim) → after ≡ with waiting mover (Some claim) → AreReady new after
ready_lent mover old new waiting after claim ready gives put =
    ready_set mover old new waiting after (Some claim) ready (others_lent (Mover mover) old new claim gives)
    (subst (λ o. IsReadyFor o (Some claim)) (sym (holder_lent (Mover mover) old new claim gives)) (gives.2, gives.3)) put

-- ---- what waits

-- where nothing waits for a mover, it holds no claim
pub waits_free : (held : Option Held) (lent : Option Claim) → IsReadyFor held lent → lent ≡ None → held ≡ None
waits_free None lent ready none = refl
waits_free (Some held) None ready none = absurd ready
waits_free (Some held) (Some lent) ready none = absurd (cc none)

-- what waits was lent by a claim that the mover holds
pub waits_held : (held : Option Held) (lent : Option Claim) (claim : Claim) → IsReadyFor held lent → lent ≡ Some claim → IsSome held
waits_held None None claim ready is = absurd (cc is)
waits_held None (Some lent) claim ready is = absurd (cc ready)
waits_held (Some held) lent claim ready is = refl

-- what was made of it is of a share of that claim
pub waits_mended : {E : Type 0} (held : Option Held) (lent : Option Claim) (claim : Claim) (product : Result Product E) → IsReadyFor held lent → lent ≡ Some claim → IfOk product (IsProductOf claim) → IfOk product (IsMended held)
waits_mended held lent claim (Err why) ready is made = tt
waits_mended held lent claim (Ok product) ready is made = at held (subst (IsReadyFor held) is ready)
  where
    at : (o : Option Held) → IsReadyFor o (Some claim) → IsMended o product
    at None ready = absurd (cc ready)
    at (Some kept) ready = (claim, ready.0, made)

-- ---- a new runner

pub ready_first : (claims : List Held) (waiting : ℕ → Option Claim) → claims ≡ [] → ((m : ℕ) → waiting m ≡ None) → AreReady claims waiting
ready_first claims waiting none empty = record {
  movers = λ m seat. subst (λ held. IsReadyFor held (waiting m)) (sym (ap (held_by (Mover m)) none)) (empty m);
  sessions = λ s. ap (held_by (Session s)) none;
}
