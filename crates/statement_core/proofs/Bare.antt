-- Between statements, a transaction that ends with its statement has written nothing: each event keeps this.
use Rattle.std.proofs.Common.{◌≡◌, ℕ, ◌+◌, ◌-◌, List, [], refl, sym, subst, cond, Bool, true, false, arith, Option, None, Some, nat_le}
use Rattle.std.specs.Prelude.{◌==◌}
use Rattle.std.proofs.lemmas.Bool.Decides.{nat_tests}
use Rattle.cs_types.specs.declared.Schema.{Schema}
use Rattle.cs_model.specs.declared.entry.Bound.{Bound}
use Rattle.cs_model.specs.declared.entry.Bound.TheVariants as bound
use Rattle.cs_model.specs.declared.entry.Entry.{Entry}
use Rattle.cs_model.specs.declared.entry.Entry.TheVariants.{Start, Finish, End, Mover}
use Rattle.cs_model.specs.declared.entry.Reply.{Reply}
use Rattle.cs_model.specs.declared.entry.Reply.TheVariants as reply
use Rattle.cs_model.specs.Actors.{actor_of}
use Rattle.cs_model.specs.Changes.{Edit}
use Rattle.cs_model.specs.Kinds.{is_of_table}
use Rattle.cs_model.specs.State.{Txn, Half, State, Begin, schema_now, with}
use Rattle.cs_model.specs.Steps.{IsStep, IsFinish, pinned, fixed, txn_opened, staged, is_empty, commits, wrote, writes_in, began, unwound, gone, accepted, ends_txn, replied, rested}
use Rattle.log_laws.proofs.Framed.{framed, at_own}
use Rattle.statement_core.specs.CoreState.{IsBare}

-- the session's transaction, in this state
abbrev BareAt : ℕ → State → Type 0
BareAt s m = IsBare (m.txns s)

bare_if : (s : ℕ) (x y : State) (t : Bool) → BareAt s x → BareAt s y → BareAt s (cond t x y)
bare_if s x y true a b = a
bare_if s x y false a b = b

bare_gone : (m : State) (s : ℕ) → BareAt s (gone m s)
bare_gone m s = subst IsBare (sym (at_own m.txns s None)) tt

bare_commits : (m : State) (s : ℕ) (txn : Txn) → BareAt s (commits m s txn)
bare_commits m s txn = bare_if s _ _ (is_empty txn.own) (bare_gone m s) (bare_gone m s)

not_implicit : (depth : ℕ) (t : Bool) → (depth == 0) ≡ t → t ≡ false → (depth == 0) ≡ true → ⊥
not_implicit depth t e f g = cc (e, f, g)

-- a transaction that stays open is an explicit one
bare_set : (m : State) (s : ℕ) (txn : Txn) → (txn.depth == 0) ≡ false → BareAt s (record m { txns = with m.txns s (Some txn) })
bare_set m s txn deep = subst IsBare (sym (at_own m.txns s (Some txn))) (λ e. absurd (not_implicit txn.depth (txn.depth == 0) refl deep e))

bare_wrote : (m : State) (s : ℕ) (o : Option Txn) (edits : List Edit) → m.txns s ≡ o → IsBare o → BareAt s (wrote m s o edits)
bare_wrote m s None edits e b = subst IsBare (sym e) tt
bare_wrote m s (Some txn) edits e b = by (txn.depth == 0) refl
  where
    by : (t : Bool) → (txn.depth == 0) ≡ t → BareAt s (cond t (commits m s (record txn { own = staged txn.own edits })) (record m { txns = with m.txns s (Some (record txn { own = staged txn.own edits })) }))
    by true d = bare_commits m s (record txn { own = staged txn.own edits })
    by false d = bare_set m s (record txn { own = staged txn.own edits }) d

deeper : (depth : ℕ) → (depth + 1 == 0) ≡ false
deeper depth = grind (arith, nat_tests)

less_deep : (depth : ℕ) → nat_le depth 1 ≡ false → (depth - 1 == 0) ≡ false
less_deep depth e = grind (arith, nat_tests, e)

bare_began : (m : State) (s : ℕ) (o : Option Txn) → BareAt s (began m s o)
bare_began m s None = subst IsBare (sym (at_own m.txns s (Some (record { number = m.next; depth = 1; snapshot = None; own = [] })))) (λ e. refl)
bare_began m s (Some txn) = bare_set m s (record txn { depth = txn.depth + 1 }) (deeper txn.depth)

bare_unwound : (m : State) (s : ℕ) (o : Option Txn) → m.txns s ≡ o → BareAt s (unwound m s o)
bare_unwound m s None e = subst IsBare (sym e) tt
bare_unwound m s (Some txn) e = by (nat_le txn.depth 1) refl
  where
    by : (t : Bool) → nat_le txn.depth 1 ≡ t → BareAt s (cond t (commits m s txn) (record m { txns = with m.txns s (Some (record txn { depth = txn.depth - 1 })) }))
    by true d = bare_commits m s txn
    by false d = bare_set m s (record txn { depth = txn.depth - 1 }) (less_deep txn.depth d)

bare_accepted : (schema : Schema) (m : State) (s : ℕ) (b : Bound) → BareAt s m → BareAt s (accepted schema m s b)
bare_accepted schema m s bound.Begin h = bare_began m s (m.txns s)
bare_accepted schema m s bound.Commit h = bare_unwound m s (m.txns s) refl
bare_accepted schema m s bound.Rollback h = bare_gone m s
bare_accepted schema m s bound.Nothing h = h
bare_accepted schema m s (bound.Statistics on) h = h
bare_accepted schema m s (bound.Insert plan) h = bare_wrote m s (m.txns s) (writes_in schema m.changes (m.txns s) (bound.Insert plan)) refl h
bare_accepted schema m s (bound.Update plan) h = bare_wrote m s (m.txns s) (writes_in schema m.changes (m.txns s) (bound.Update plan)) refl h
bare_accepted schema m s (bound.Delete condition) h = bare_wrote m s (m.txns s) (writes_in schema m.changes (m.txns s) (bound.Delete condition)) refl h
bare_accepted schema m s (bound.Select query) h = bare_wrote m s (m.txns s) [] refl h
bare_accepted schema m s bound.GroupReport h = h
bare_accepted schema m s bound.SegmentReport h = h
bare_accepted schema m s (bound.Reorganize all) h = h
bare_accepted schema m s (bound.Refused refusal) h = h

bare_replied : (schema : Schema) (m : State) (s : ℕ) (b : Bound) (r : Reply) → BareAt s m → BareAt s (replied schema m s b r)
bare_replied schema m s b reply.Done h = bare_accepted schema m s b h
bare_replied schema m s b (reply.Affected count) h = bare_accepted schema m s b h
bare_replied schema m s b (reply.Rows rows segments) h = bare_accepted schema m s b h
bare_replied schema m s b (reply.Groups lines buffered) h = bare_accepted schema m s b h
bare_replied schema m s b (reply.Segments lines) h = bare_accepted schema m s b h
bare_replied schema m s b (reply.Left groups) h = bare_accepted schema m s b h
bare_replied schema m s b (reply.Refused refusal) h = bare_if s (gone m s) m (ends_txn (m.txns s) refusal) (bare_gone m s) h

bare_opened : (o : Option Txn) (next clock : ℕ) (short : Bool) → IsBare o → IsBare (Some (fixed (txn_opened o next) short clock))
bare_opened None next clock short b = λ e. refl
bare_opened (Some txn) next clock short b = b

bare_started : (m : State) (s : ℕ) (b : Bound) (short : Bool) → BareAt s m → BareAt s (cond (is_of_table b) (pinned m s short) m)
bare_started m s b short h =
    bare_if s (pinned m s short) m (is_of_table b)
    (subst IsBare (sym (at_own m.txns s (Some (fixed (txn_opened (m.txns s) m.next) short m.clock)))) (bare_opened (m.txns s) m.next m.clock short h)) h

bare_finish : (schema : Schema) (m : State) (s : ℕ) (h : Option Half) (r : Reply) (after : State) → IsFinish schema m s h r after → BareAt s m → BareAt s after
bare_finish schema m s None r after x b = absurd x
bare_finish schema m s (Some half) r after x b = subst (BareAt s) (sym x.1) (bare_replied schema (rested m s) s half.bound r b)

bare_own : (begin : Begin) (m : State) (e : Entry) (after : State) → IsStep begin m e after → BareAt (actor_of e) m → BareAt (actor_of e) after
bare_own begin m (Start s b short) after x h = subst (BareAt s) (sym x.2) (bare_started m s b.value short h)
bare_own begin m (Finish s r) after x h = bare_finish (schema_now begin m) m s (m.half s) r after x h
bare_own begin m (End s) after x h = subst (BareAt s) (sym x.1) (bare_gone m s)
bare_own begin m (Mover actor work) after x h = subst (BareAt (actor_of (Mover actor work))) (sym x) h

pub bare_step : (begin : Begin) (m : State) (e : Entry) (after : State) → IsStep begin m e after → ((s : ℕ) → IsBare (m.txns s)) → (s : ℕ) → IsBare (after.txns s)
bare_step begin m e after x h s = by (s == actor_of e) refl
  where
    by : (t : Bool) → (s == actor_of e) ≡ t → IsBare (after.txns s)
    by true is = let same : s ≡ actor_of e = grind (arith, nat_tests, is) in subst (λ n. IsBare (after.txns n)) (sym same) (bare_own begin m e after x (h (actor_of e)))
    by false not = let f = framed begin m e after x in subst IsBare (sym (f.txns s not)) (h s)
