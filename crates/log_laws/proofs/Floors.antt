-- The tables of snapshots stay, and the floor never falls.
use Rattle.std.proofs.Common.{◌≡◌, ℕ, ◌≤◌, List, [], ◌∷◌, ◌++◌, refl, sym, ap, subst, ◌∙◌, Bool, true, false, inl, inr, ◌⊎◌, arith, Option, None, Some}
use Rattle.std.specs.Prelude.{◌==◌}
use Rattle.std.proofs.lemmas.Option.{none-some}
use Rattle.cs_model.specs.declared.entry.Entry.{Entry}
use Rattle.cs_model.specs.Actors.{actor_of}
use Rattle.cs_model.specs.Changes.{table}
use Rattle.cs_model.specs.Floors.{snapshot_of, snapshots, IsFloor}
use Rattle.cs_model.specs.State.{Txn, State, Begin}
use Rattle.cs_model.specs.Steps.{IsStep, Leads, Legal}
use Rattle.log_laws.specs.Frames.{SnapIn, SnapAtMost}
use Rattle.log_laws.specs.Laws.{IsSound}
use Rattle.log_laws.proofs.Framed.{framed, clock_step}
use Rattle.log_laws.proofs.Logs.{leads_split, legal_one}
use Rattle.log_laws.proofs.Owners.{equal}
use Rattle.log_laws.proofs.StartedOn.{table_stays}
use Rattle.log_laws.proofs.Sound.{writes_sound, sound_step, sound_from}

-- the later part of a log, from the state that its earlier part leads to
pub leads_on : (begin : Begin) (log rest : List Entry) (m after : State) → Legal begin log m → Legal begin (log ++ rest) after → Leads begin m rest after
leads_on begin log rest m after l all =
    let split = leads_split begin begin.state after log rest all in
    subst (λ z. Leads begin z rest after) (legal_one begin log split.0 m split.1 l) split.2

-- ---- tables

table_from : (begin : Begin) (m after : State) (es : List Entry) (s : ℕ) → Leads begin m es after → s ≤ m.clock → table after.changes s ≡ table m.changes s
table_from begin m after [] s l le = ap (λ (z : State). table z.changes s) l
table_from begin m after (e ∷ es) s l le =
    let f = framed begin m e l.0 l.1 in
    let grows = (clock_step m e l.0 f).1 in
    table_from begin l.0 after es s l.2 (omega (arith, le, grows)) ∙ ap (λ changes. table changes s) f.changes ∙ table_stays m.changes m.clock f.txn s f.own le

pub table_kept : (begin : Begin) (log rest : List Entry) (m after : State) (s : ℕ) → Legal begin log m → Legal begin (log ++ rest) after → s ≤ m.clock → table after.changes s ≡ table m.changes s
table_kept begin log rest m after s l all le = table_from begin m after rest s (leads_on begin log rest m after l all) le

-- ---- one floor

floor_at_most : (taken : ℕ → Option ℕ) (clock a b : ℕ) → IsFloor taken clock a → IsFloor taken clock b → a ≤ b
floor_at_most taken clock a b x y = at y.one_of x.one_of
  where
    at : ((session : ℕ) × (taken session ≡ Some b)) ⊎ ((b ≡ clock) × ((session : ℕ) → taken session ≡ None))
        → ((session : ℕ) × (taken session ≡ Some a)) ⊎ ((a ≡ clock) × ((session : ℕ) → taken session ≡ None)) → a ≤ b
    at (inl one) other = x.least one.0 b one.1
    at (inr none) (inl one) = absurd (none-some a (sym (none.1 one.0) ∙ one.1))
    at (inr none) (inr also) = let p = none.0 in let q = also.0 in omega (arith, p, q)

pub floor_one : (taken : ℕ → Option ℕ) (clock a b : ℕ) → IsFloor taken clock a → IsFloor taken clock b → a ≡ b
floor_one taken clock a b x y = let p = floor_at_most taken clock a b x y in let q = floor_at_most taken clock b a y x in omega (arith, p, q)

-- ---- it never falls

-- nothing below this number is read
record IsBelow (floor : ℕ) (m : State) : Type 0 where
  clock : floor ≤ m.clock
  taken : (session s : ℕ) → snapshots m session ≡ Some s → floor ≤ s

below_step : (begin : Begin) (m : State) (e : Entry) (after : State) (floor : ℕ) → IsStep begin m e after → IsSound m → IsBelow floor m → IsBelow floor after
below_step begin m e after floor x p below = record {
  clock = let grows = (clock_step m e after (framed begin m e after x)).1 in let was = below.clock in omega (arith, grows, was);
  taken = λ session s e'. at session s (session == actor_of e) refl e';
}
  where
    own : (s : ℕ) → (snapshots m (actor_of e) ≡ Some s) ⊎ (s ≡ m.clock) → floor ≤ s
    own s (inl was) = below.taken (actor_of e) s was
    own s (inr is) = let was = below.clock in omega (arith, is, was)

    at : (session s : ℕ) (b : Bool) → (session == actor_of e) ≡ b → snapshots after session ≡ Some s → floor ≤ s
    at session s true t is =
        own s ((writes_sound begin m e after x p).snapshot s (ap (λ n. snapshots after n) (sym (equal session (actor_of e) t)) ∙ is))
    at session s false t is = below.taken session s (ap snapshot_of (sym ((framed begin m e after x).txns session t)) ∙ is)

below_from : (begin : Begin) (m after : State) (es : List Entry) (floor : ℕ) → Leads begin m es after → IsSound m → IsBelow floor m → IsBelow floor after
below_from begin m after [] floor l p below = subst (IsBelow floor) (sym l) below
below_from begin m after (e ∷ es) floor l p below = below_from begin l.0 after es floor l.2 (sound_step begin m e l.0 l.1 p) (below_step begin m e l.0 floor l.1 p below)

-- a floor is at most the clock, and so is all that is read at least it
floor_below : (m : State) (floor : ℕ) → IsSound m → IsFloor (snapshots m) m.clock floor → IsBelow floor m
floor_below m floor p f = record { clock = at f.one_of; taken = f.least }
  where
    in_clock : (o : Option Txn) → snapshot_of o ≡ Some floor → SnapIn o m.clock → floor ≤ m.clock
    in_clock None e snap = absurd (none-some floor e)
    in_clock (Some txn) e snap = subst (λ x. SnapAtMost x m.clock) e snap

    at : ((session : ℕ) × (snapshots m session ≡ Some floor)) ⊎ ((floor ≡ m.clock) × ((session : ℕ) → snapshots m session ≡ None)) → floor ≤ m.clock
    at (inl one) = in_clock (m.txns one.0) one.1 (p.snapshots one.0)
    at (inr none) = let e = none.0 in omega (arith, e)

below_floor : (m : State) (floor later : ℕ) → IsBelow floor m → IsFloor (snapshots m) m.clock later → floor ≤ later
below_floor m floor later below f = at f.one_of
  where
    at : ((session : ℕ) × (snapshots m session ≡ Some later)) ⊎ ((later ≡ m.clock) × ((session : ℕ) → snapshots m session ≡ None)) → floor ≤ later
    at (inl one) = below.taken one.0 later one.1
    at (inr none) = let e = none.0 in let le = below.clock in omega (arith, e, le)

pub floor_rises : (begin : Begin) (log rest : List Entry) (m after : State) (floor later : ℕ) → IsSound begin.state → Legal begin log m → Legal begin (log ++ rest) after → IsFloor (snapshots m) m.clock floor
    → IsFloor (snapshots after) after.clock later → floor ≤ later
floor_rises begin log rest m after floor later may l all f g =
    let p = sound_from begin begin.state m log l may in
    below_floor after floor later (below_from begin m after rest floor (leads_on begin log rest m after l all) p (floor_below m floor p f)) g
