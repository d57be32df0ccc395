-- What a session has begun stays, whatever the others do.
use Rattle.std.proofs.Common.{◌≡◌, ℕ, ◌+◌, ◌≤◌, List, [], ◌∷◌, ◌++◌, map, refl, sym, ap, subst, ◌∙◌, cond, Bool, true, false, arith, is_some, Option, None, Some, nat_le, Global}
use Rattle.std.specs.Prelude.{◌==◌, ◌&&◌}
use Rattle.std.specs.declared.sync.Arc.{Arc}
use Rattle.std.proofs.lemmas.List.{append-nil, append_assoc}
use Rattle.std.proofs.lemmas.List.Elements.{filter-append}
use Rattle.std.proofs.lemmas.Bool.Decides.{nat_tests}
use Rattle.cs_model.specs.declared.entry.Entry.{Entry}
use Rattle.cs_model.specs.declared.entry.Entry.TheVariants.{Start, Finish, End, Mover}
use Rattle.cs_model.specs.declared.entry.Bound.{Bound}
use Rattle.cs_model.specs.Actors.{actor_of, is_turn, entries_of, turns_of, is_begun}
use Rattle.cs_model.specs.Changes.{Edit, Change, laid, until, table}
use Rattle.cs_model.specs.Floors.{snapshot_of}
use Rattle.cs_model.specs.State.{Txn, State, Begin, half_set}
use Rattle.cs_model.specs.Kinds.{is_of_table}
use Rattle.cs_model.specs.Steps.{IsStep, Legal, numbered, half_of, started, pinned, fixed, txn_opened, or_clock}
use Rattle.log_laws.specs.Frames.{Frames, SnapIn, SnapAtMost, IsPinnedAt, IsPinned}
use Rattle.log_laws.specs.Laws.{IsPinnedHalf, MayBegin}
use Rattle.log_laws.specs.Started.{Begun, own_in, is_implicit, Sees, Shows, Starts, IsStarted}
use Rattle.log_laws.proofs.Framed.{framed, clock_step, at_own}
use Rattle.log_laws.proofs.Logs.{leads_split, leads_one, legal_push}
use Rattle.log_laws.proofs.Entries.{begun_is}

-- ---- a table of a snapshot stays

none_until : (s k t : ℕ) (own : List Edit) → nat_le k s ≡ false → until s (numbered k t own) ≡ []
none_until s k t [] e = refl
none_until s k t (x ∷ own) e = ap (λ b. cond b (record { commit = k; txn = t; edit = x } ∷ until s (numbered k t own)) (until s (numbered k t own))) e ∙ none_until s k t own e

pub until_stays : (changes : List Change) (s k t : ℕ) (own : List Edit) → nat_le k s ≡ false → until s (changes ++ numbered k t own) ≡ until s changes
until_stays changes s k t own e = filter-append (λ (change : Change). nat_le change.commit s) changes (numbered k t own) ∙ ap (λ rest. until s changes ++ rest) (none_until s k t own e) ∙ append-nil (until s changes)

-- changes above a snapshot are not in its table
pub table_stays : (changes : List Change) (clock t s : ℕ) (own : List Edit) → s ≤ clock → table (changes ++ numbered (clock + 1) t own) s ≡ table changes s
table_stays changes clock t s own le =
    let above : nat_le (clock + 1) s ≡ false = grind (arith, nat_tests, le) in
    ap (λ list. laid [] (map (λ (change : Change). change.edit) list)) (until_stays changes s (clock + 1) t own above)

pinned_at_on : (o : Option ℕ) (a b : ℕ) → a ≤ b → IsPinnedAt o a → IsPinnedAt o b
pinned_at_on None a b le p = p
pinned_at_on (Some s) a b le p = omega (arith, le, p)

pub pinned_on : (o : Option Txn) (a b : ℕ) → a ≤ b → IsPinned o a → IsPinned o b
pinned_on None a b le p = p
pinned_on (Some txn) a b le p = pinned_at_on txn.snapshot a b le p

-- ---- what a session knows

sees_on : (m : State) (e : Entry) (after : State) (s : ℕ) (begun : Begun) → Frames m e after → after.txns s ≡ m.txns s → Sees m s begun → Sees after s begun
sees_on m e after s begun f same k =
    let later = (clock_step m e after f).1 in
    let taken = k.taken in
    let above : nat_le (m.clock + 1) begun.snapshot ≡ false = grind (arith, nat_tests, taken) in
    record {
      snapshot = ap snapshot_of same ∙ k.snapshot;
      taken = omega (arith, later, taken);
      changes = ap (until begun.snapshot) f.changes ∙ until_stays m.changes begun.snapshot (m.clock + 1) f.txn f.own above ∙ k.changes;
    }

pub shows_step : (begin : Begin) (m : State) (e : Entry) (after : State) (s : ℕ) (begun : Begun) → IsStep begin m e after → (actor_of e == s) ≡ false → Shows begin m s begun → Shows begin after s begun
shows_step begin m e after s begun x ne k =
    let f = framed begin m e after x in
    let not : (s == actor_of e) ≡ false = grind (arith, nat_tests, ne) in
    let same : after.txns s ≡ m.txns s = f.txns s not in
    record {
      half = f.halves s not ∙ k.half;
      schema = k.schema;
      implicit = k.implicit ∙ sym (ap is_implicit same);
      own = k.own ∙ sym (ap own_in same);
      sees = λ t n. sees_on m e after s begun f same (k.sees t n);
    }

-- an entry that is no turn of the session keeps what it has begun
pub shows_on : (begin : Begin) (m : State) (e : Entry) (after : State) (s : ℕ) (begun : Begun) → IsStep begin m e after → (is_turn e && (actor_of e == s)) ≡ false → Shows begin m s begun → Shows begin after s begun
shows_on begin m (Start n b t) after s begun x ne k = shows_step begin m (Start n b t) after s begun x ne k
shows_on begin m (Finish n r) after s begun x ne k = shows_step begin m (Finish n r) after s begun x ne k
shows_on begin m (End n) after s begun x ne k = shows_step begin m (End n) after s begun x ne k
shows_on begin m (Mover actor work) after s begun x ne k = subst (λ z. Shows begin z s begun) (sym x) k

-- what a session has begun stays through another's entry, and through one that is no turn
pub started_on : (begin : Begin) (log : List Entry) (e : Entry) (s : ℕ) (begun : Begun) → (is_turn e && (actor_of e == s)) ≡ false → IsStarted begin log s begun → IsStarted begin (log ++ e ∷ []) s begun
started_on begin log e s begun ne k = λ m l.
    let sp = leads_split begin begin.state m log (e ∷ []) l in
    let last = sp.2 in
    subst (λ z. Shows begin z s begun) (sym last.2) (shows_on begin sp.0 e last.0 s begun last.1 ne (k sp.0 sp.1))

-- and through all entries without its turns
pub started_through : (begin : Begin) (log rest : List Entry) (s : ℕ) (begun : Begun) → turns_of s rest ≡ [] → IsStarted begin log s begun → IsStarted begin (log ++ rest) s begun
started_through begin log [] s begun none k = subst (λ l. IsStarted begin l s begun) (sym (append-nil log)) k
started_through begin log (e ∷ rest) s begun none k = at (is_turn e && (actor_of e == s)) refl none (λ none k. started_through begin (log ++ e ∷ []) rest s begun none k)
  where
    at : (t : Bool) → (is_turn e && (actor_of e == s)) ≡ t → cond t (e ∷ turns_of s rest) (turns_of s rest) ≡ []
        → (turns_of s rest ≡ [] → IsStarted begin (log ++ e ∷ []) s begun → IsStarted begin ((log ++ e ∷ []) ++ rest) s begun) → IsStarted begin (log ++ e ∷ rest) s begun
    at true t none ih = absurd (cc none)
    at false t none ih = subst (λ l. IsStarted begin l s begun) (append_assoc log (e ∷ []) rest) (ih none (started_on begin log e s begun t k))

pub shows_begun : (begin : Begin) (log : List Entry) (m : State) (s : ℕ) (begun : Begun) → MayBegin begin → Legal begin log m → Shows begin m s begun → is_begun (entries_of s log) ≡ true
shows_begun begin log m s begun may l k = sym (begun_is begin log m s may l) ∙ ap is_some k.half

-- ---- a Start

pub start_steps : (begin : Begin) (m after : State) (s : ℕ) (b : Arc Bound Global) (begun : Begun) → m.half s ≡ None → b.value ≡ begun.bound → Starts begin m s begun after → IsStep begin m (Start s b begun.short) after
start_steps begin m after s b begun rests same st =
    (rests, λ short. ap is_of_table same ∙ st.why short, st.state ∙ ap (λ bound. started m s bound begun.short) (sym same))

-- the log with its Start shows what it gives
pub start_shows : (begin : Begin) (log : List Entry) (m after : State) (s : ℕ) (b : Arc Bound Global) (begun : Begun) → Legal begin log m → m.half s ≡ None → b.value ≡ begun.bound → Starts begin m s begun after
    → IsStarted begin (log ++ Start s b begun.short ∷ []) s begun
start_shows begin log m after s b begun l rests same st = λ x lx.
    let is : after ≡ x = leads_one begin begin.state after x (log ++ Start s b begun.short ∷ []) (legal_push begin log m after (Start s b begun.short) l (start_steps begin m after s b begun rests same st)) lx in
    subst (λ z. Shows begin z s begun) is st.shows

fixed_pinned : (o : Option Txn) (next clock : ℕ) → SnapIn o clock → IsPinned (Some (fixed (txn_opened o next) false clock)) clock
fixed_pinned None next clock p = omega arith
fixed_pinned (Some txn) next clock p = at txn.snapshot p
  where
    at : (x : Option ℕ) → SnapAtMost x clock → or_clock x clock ≤ clock
    at None q = omega arith
    at (Some y) q = q

-- a Start of a statement of the table that found memory leaves a transaction with a snapshot
pub pinned_after : (m : State) (s : ℕ) (b : Bound) (short : Bool) → SnapIn (m.txns s) m.clock → IsPinnedHalf ((started m s b short).half s) ((started m s b short).txns s) (started m s b short).clock
pinned_after m s b short snap =
    subst (λ h. IsPinnedHalf h ((started m s b short).txns s) (started m s b short).clock)
    (sym (at_own (cond (is_of_table b) (pinned m s short) m).half s (Some (half_of m b short)))) (λ t n. at t n)
  where
    at : is_of_table b ≡ true → short ≡ false → IsPinned ((started m s b short).txns s) (started m s b short).clock
    at t n =
        let is : started m s b short ≡ half_set (pinned m s false) s (Some (half_of m b short)) =
        ap (λ x. half_set (cond x (pinned m s short) m) s (Some (half_of m b short))) t ∙ ap (λ q. half_set (pinned m s q) s (Some (half_of m b short))) n in
        subst (λ (x : State). IsPinned (x.txns s) x.clock) (sym is)
        (subst (λ o. IsPinned o m.clock) (sym (at_own m.txns s (Some (fixed (txn_opened (m.txns s) m.next) false m.clock)))) (fixed_pinned (m.txns s) m.next m.clock snap))
