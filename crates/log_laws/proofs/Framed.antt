-- Each kind of event has its frame.
use Rattle.std.proofs.Common.{◌≡◌, ℕ, ◌+◌, ◌<◌, ◌≤◌, List, [], ◌++◌, refl, sym, ap, subst, ◌∙◌, cond, Bool, true, false, arith, is_some, Option, None, Some, nat_le, Global}
use Rattle.std.specs.Prelude.{◌==◌}
use Rattle.std.specs.declared.sync.Arc.{Arc}
use Rattle.std.proofs.lemmas.List.{append-nil}
use Rattle.std.proofs.lemmas.Bool.Decides.{nat_tests}
use Rattle.cs_types.specs.declared.Schema.{Schema}
use Rattle.cs_model.specs.declared.entry.Entry.{Entry}
use Rattle.cs_model.specs.declared.entry.Entry.TheVariants.{Start, Finish, End, Mover}
use Rattle.cs_model.specs.declared.entry.Bound.{Bound}
use Rattle.cs_model.specs.declared.entry.Bound.TheVariants as bound
use Rattle.cs_model.specs.declared.entry.Reply.{Reply}
use Rattle.cs_model.specs.declared.entry.Reply.TheVariants as reply
use Rattle.cs_model.specs.Actors.{actor_of, begun_by}
use Rattle.cs_model.specs.Changes.{Edit}
use Rattle.cs_model.specs.State.{Txn, Half, State, Begin, schema_now, with, txn_set, half_set, statistics_set}
use Rattle.cs_model.specs.Kinds.{is_of_table}
use Rattle.cs_model.specs.Steps.{IsStep, IsFinish, half_of, pinned, next_opened, or_clock, fixed, txn_opened, staged, is_empty, committed, writes_in, wrote, began, unwound, accepted, replied, commits, gone, ends_txn, rested}
use Rattle.log_laws.specs.Frames.{Acts, Frames, SnapIn, SnapAtMost, IsDrawn, Ticks}

pub at_own : {A : Type 0} (f : ℕ → A) (s : ℕ) (x : A) → with f s x s ≡ x
at_own f s x = let e : (s == s) ≡ true = grind (arith, nat_tests) in rw e refl

pub at_other : {A : Type 0} (f : ℕ → A) (s i : ℕ) (x : A) → (i == s) ≡ false → with f s x i ≡ f i
at_other f s i x e = rw e refl

-- an event without a commit leaves the clock
ticks_none : (clock : ℕ) → Ticks clock [] clock
ticks_none clock = record { least = omega arith; most = omega arith; committed = λ e. absurd (cc e) }

-- ---- a session's transaction

acts_same : (m : State) (s : ℕ) → Acts m s m
acts_same m s = record {
  half = refl;
  statistics = λ i e. refl;
  txns = λ i e. refl;
  txn = 0;
  own = [];
  changes = sym (append-nil m.changes);
  clock = ticks_none m.clock;
  next = omega arith;
  later = omega arith;
  snap = λ p. p;
  drawn = λ p. p;
  writer = λ p e. absurd (cc e);
}

-- the setting is another
acts_setting : (m : State) (s : ℕ) (on : Bool) → Acts m s (statistics_set m s on)
acts_setting m s on = record {
  half = refl;
  statistics = λ i e. at_other m.statistics s i on e;
  txns = λ i e. refl;
  txn = 0;
  own = [];
  changes = sym (append-nil m.changes);
  clock = ticks_none m.clock;
  next = omega arith;
  later = omega arith;
  snap = λ p. p;
  drawn = λ p. p;
  writer = λ p e. absurd (cc e);
}

acts_txn : (m : State) (s : ℕ) (o : Option Txn) (next : ℕ) → next ≤ m.next + 1 → m.next ≤ next → (SnapIn (m.txns s) m.clock → SnapIn o m.clock)
    → (IsDrawn (m.txns s) m.next → IsDrawn o next) → Acts m s (record m { txns = with m.txns s o; next = next })
acts_txn m s o next le later snap drawn = record {
  half = refl;
  statistics = λ i e. refl;
  txns = λ i e. at_other m.txns s i o e;
  txn = 0;
  own = [];
  changes = sym (append-nil m.changes);
  clock = ticks_none m.clock;
  next = le;
  later = later;
  snap = λ p. subst (λ x. SnapIn x m.clock) (sym (at_own m.txns s o)) (snap p);
  drawn = λ p. subst (λ x. IsDrawn x next) (sym (at_own m.txns s o)) (drawn p);
  writer = λ p e. absurd (cc e);
}

acts_set : (m : State) (s : ℕ) (o : Option Txn) → (SnapIn (m.txns s) m.clock → SnapIn o m.clock) → (IsDrawn (m.txns s) m.next → IsDrawn o m.next) → Acts m s (txn_set m s o)
acts_set m s o snap drawn = acts_txn m s o m.next (omega arith) (omega arith) snap drawn

acts_gone : (m : State) (s : ℕ) → Acts m s (gone m s)
acts_gone m s = acts_set m s None (λ p. tt) (λ p. tt)

acts_committed : (m : State) (s : ℕ) (txn : Txn) → (IsDrawn (m.txns s) m.next → txn.number < m.next) → is_empty txn.own ≡ false
    → Acts m s (record (gone m s) { changes = m.changes ++ committed (m.clock + 1) txn; clock = m.clock + 1 })
acts_committed m s txn writer some = record {
  half = refl;
  statistics = λ i e. refl;
  txns = λ i e. at_other m.txns s i None e;
  txn = txn.number;
  own = txn.own;
  changes = refl;
  clock = record { least = omega arith; most = omega arith; committed = λ e. refl };
  next = omega arith;
  later = omega arith;
  snap = λ p. subst (λ x. SnapIn x m.clock) (sym (at_own m.txns s None)) tt;
  drawn = λ p. subst (λ x. IsDrawn x m.next) (sym (at_own m.txns s None)) tt;
  writer = λ p e. writer p;
}

acts_commits : (m : State) (s : ℕ) (txn : Txn) → (IsDrawn (m.txns s) m.next → txn.number < m.next) → Acts m s (commits m s txn)
acts_commits m s txn writer = at (is_empty txn.own) refl
  where
    at : (b : Bool) → is_empty txn.own ≡ b → Acts m s (cond b (gone m s) (record (gone m s) { changes = m.changes ++ committed (m.clock + 1) txn; clock = m.clock + 1 }))
    at true e = acts_gone m s
    at false e = acts_committed m s txn writer e

acts_if : (m : State) (s : ℕ) (x y : State) (b : Bool) → Acts m s x → Acts m s y → Acts m s (cond b x y)
acts_if m s x y true a c = a
acts_if m s x y false a c = c

-- ---- an accepted statement

snap_as : (m : State) (s : ℕ) (o : Option Txn) → m.txns s ≡ o → SnapIn (m.txns s) m.clock → SnapIn o m.clock
snap_as m s o e p = subst (λ x. SnapIn x m.clock) e p

drawn_as : (m : State) (s : ℕ) (o : Option Txn) → m.txns s ≡ o → IsDrawn (m.txns s) m.next → IsDrawn o m.next
drawn_as m s o e p = subst (λ x. IsDrawn x m.next) e p

acts_wrote : (m : State) (s : ℕ) (o : Option Txn) (edits : List Edit) → m.txns s ≡ o → Acts m s (wrote m s o edits)
acts_wrote m s None edits e = acts_same m s
acts_wrote m s (Some txn) edits e = acts_if m s _ _ (txn.depth == 0)
    (acts_commits m s (record txn { own = staged txn.own edits }) (drawn_as m s (Some txn) e))
    (acts_set m s (Some (record txn { own = staged txn.own edits })) (snap_as m s (Some txn) e) (drawn_as m s (Some txn) e))

acts_began : (m : State) (s : ℕ) (o : Option Txn) → m.txns s ≡ o → Acts m s (began m s o)
acts_began m s None e = acts_txn m s (Some (record { number = m.next; depth = 1; snapshot = None; own = [] })) (m.next + 1) (omega arith) (omega arith) (λ p. tt) (λ p. omega arith)
acts_began m s (Some txn) e = acts_set m s (Some (record txn { depth = txn.depth + 1 })) (snap_as m s (Some txn) e) (drawn_as m s (Some txn) e)

acts_unwound : (m : State) (s : ℕ) (o : Option Txn) → m.txns s ≡ o → Acts m s (unwound m s o)
acts_unwound m s None e = acts_same m s
acts_unwound m s (Some txn) e = acts_if m s _ _ (nat_le txn.depth 1)
    (acts_commits m s txn (drawn_as m s (Some txn) e))
    (acts_set m s _ (snap_as m s (Some txn) e) (drawn_as m s (Some txn) e))

acts_accepted : (schema : Schema) (m : State) (s : ℕ) (b : Bound) → Acts m s (accepted schema m s b)
acts_accepted schema m s bound.Begin = acts_began m s (m.txns s) refl
acts_accepted schema m s bound.Commit = acts_unwound m s (m.txns s) refl
acts_accepted schema m s bound.Rollback = acts_gone m s
acts_accepted schema m s bound.Nothing = acts_same m s
acts_accepted schema m s (bound.Statistics on) = acts_setting m s on
acts_accepted schema m s (bound.Insert plan) = acts_wrote m s (m.txns s) (writes_in schema m.changes (m.txns s) (bound.Insert plan)) refl
acts_accepted schema m s (bound.Update plan) = acts_wrote m s (m.txns s) (writes_in schema m.changes (m.txns s) (bound.Update plan)) refl
acts_accepted schema m s (bound.Delete condition) = acts_wrote m s (m.txns s) (writes_in schema m.changes (m.txns s) (bound.Delete condition)) refl
acts_accepted schema m s (bound.Select query) = acts_wrote m s (m.txns s) [] refl
acts_accepted schema m s bound.GroupReport = acts_same m s
acts_accepted schema m s bound.SegmentReport = acts_same m s
acts_accepted schema m s (bound.Reorganize all) = acts_same m s
acts_accepted schema m s (bound.Refused refusal) = acts_same m s

acts_replied : (schema : Schema) (m : State) (s : ℕ) (b : Bound) (r : Reply) → Acts m s (replied schema m s b r)
acts_replied schema m s b reply.Done = acts_accepted schema m s b
acts_replied schema m s b (reply.Affected count) = acts_accepted schema m s b
acts_replied schema m s b (reply.Rows list segments) = acts_accepted schema m s b
acts_replied schema m s b (reply.Groups lines buffered) = acts_accepted schema m s b
acts_replied schema m s b (reply.Segments lines) = acts_accepted schema m s b
acts_replied schema m s b (reply.Left groups) = acts_accepted schema m s b
acts_replied schema m s b (reply.Refused refusal) = acts_if m s _ _ (ends_txn (m.txns s) refusal) (acts_gone m s) (acts_same m s)

-- ---- a Start's transaction

opened_le : (o : Option Txn) (next : ℕ) → next_opened o next ≤ next + 1
opened_le None next = omega arith
opened_le (Some txn) next = omega arith

opened_ge : (o : Option Txn) (next : ℕ) → next ≤ next_opened o next
opened_ge None next = omega arith
opened_ge (Some txn) next = omega arith

snap_fixed : (o : Option Txn) (next clock : ℕ) (short : Bool) → SnapIn o clock → SnapIn (Some (fixed (txn_opened o next) short clock)) clock
snap_fixed None next clock true p = tt
snap_fixed None next clock false p = omega arith
snap_fixed (Some txn) next clock true p = p
snap_fixed (Some txn) next clock false p = at txn.snapshot p
  where
    at : (x : Option ℕ) → SnapAtMost x clock → or_clock x clock ≤ clock
    at None q = omega arith
    at (Some y) q = q

drawn_fixed : (o : Option Txn) (next clock : ℕ) (short : Bool) → IsDrawn o next → IsDrawn (Some (fixed (txn_opened o next) short clock)) (next_opened o next)
drawn_fixed None next clock short p = omega arith
drawn_fixed (Some txn) next clock short p = p

acts_pinned : (m : State) (s : ℕ) (short : Bool) → Acts m s (pinned m s short)
acts_pinned m s short = acts_txn m s (Some (fixed (txn_opened (m.txns s) m.next) short m.clock)) (next_opened (m.txns s) m.next) (opened_le (m.txns s) m.next) (opened_ge (m.txns s) m.next)
    (snap_fixed (m.txns s) m.next m.clock short) (drawn_fixed (m.txns s) m.next m.clock short)

-- ---- the frames

frames_start : (m x : State) (s : ℕ) (b : Arc Bound Global) (short : Bool) (half : Half) → Acts m s x → Frames m (Start s b short) (half_set x s (Some half))
frames_start m x s b short half a = record {
  half = ap is_some (at_own x.half s (Some half));
  halves = λ i e. at_other x.half s i (Some half) e ∙ (λ k. a.half k i);
  statistics = a.statistics;
  txns = a.txns;
  txn = a.txn;
  own = a.own;
  changes = a.changes;
  clock = a.clock;
  next = a.next;
  later = a.later;
  snap = a.snap;
  drawn = a.drawn;
  writer = a.writer;
}

frames_finish : (m after : State) (s : ℕ) (r : Reply) → Acts (rested m s) s after → Frames m (Finish s r) after
frames_finish m after s r a = record {
  half = ap is_some ((λ k. a.half k s) ∙ at_own m.half s None);
  halves = λ i e. (λ k. a.half k i) ∙ at_other m.half s i None e;
  statistics = a.statistics;
  txns = a.txns;
  txn = a.txn;
  own = a.own;
  changes = a.changes;
  clock = a.clock;
  next = a.next;
  later = a.later;
  snap = a.snap;
  drawn = a.drawn;
  writer = a.writer;
}

frames_end : (m : State) (s : ℕ) → m.half s ≡ None → Frames m (End s) (gone m s)
frames_end m s h = let a : Acts m s (gone m s) = acts_gone m s in record {
  half = ap is_some h;
  halves = λ i e. refl;
  statistics = a.statistics;
  txns = a.txns;
  txn = a.txn;
  own = a.own;
  changes = a.changes;
  clock = a.clock;
  next = a.next;
  later = a.later;
  snap = a.snap;
  drawn = a.drawn;
  writer = a.writer;
}

finish_framed : (schema : Schema) (m : State) (s : ℕ) (h : Option Half) (r : Reply) (after : State) → IsFinish schema m s h r after → Frames m (Finish s r) after
finish_framed schema m s None r after x = absurd x
finish_framed schema m s (Some half) r after x = subst (λ z. Frames m (Finish s r) z) (sym x.1) (frames_finish m _ s r (acts_replied schema (rested m s) s half.bound r))

frames_mover : (m : State) (e : Entry) → begun_by (is_some (m.half (actor_of e))) e ≡ is_some (m.half (actor_of e)) → Frames m e m
frames_mover m e same = record {
  half = sym same;
  halves = λ i e. refl;
  statistics = λ i e. refl;
  txns = λ i e. refl;
  txn = 0;
  own = [];
  changes = sym (append-nil m.changes);
  clock = ticks_none m.clock;
  next = omega arith;
  later = omega arith;
  snap = λ p. p;
  drawn = λ p. p;
  writer = λ p e. absurd (cc e);
}

pub framed : (begin : Begin) (m : State) (e : Entry) (after : State) → IsStep begin m e after → Frames m e after
framed begin m (Start s b short) after x = subst (λ z. Frames m (Start s b short) z) (sym x.2) (frames_start m _ s b short (half_of m b.value short) (acts_if m s _ _ (is_of_table b.value) (acts_pinned m s short) (acts_same m s)))
framed begin m (Finish s r) after x = finish_framed (schema_now begin m) m s (m.half s) r after x
framed begin m (End s) after x = subst (λ z. Frames m (End s) z) (sym x.1) (frames_end m s x.0)
framed begin m (Mover actor work) after x = subst (λ z. Frames m (Mover actor work) z) (sym x) (frames_mover m (Mover actor work) refl)

-- ---- the clock

-- the clock stays, or is one more
pub clock_step : (m : State) (e : Entry) (after : State) → Frames m e after → (after.clock ≤ m.clock + 1) × (m.clock ≤ after.clock)
clock_step m e after f = (f.clock.most, f.clock.least)
