-- States, field by field.
use Rattle.std.proofs.Common.{◌≡◌, ◌<◌, ◌≤◌, ℕ, ◌+◌, ◌-◌, ◌++◌, List, [], refl, sym, ap, ◌∙◌, cond, arith, nat_lt, nat_le, Bool, true, false, Option, None, Some}
use Rattle.std.specs.Prelude.{◌==◌, unwrap_or, IsSome}
use Rattle.std.specs.Option.{option_map}
use Rattle.std.proofs.lemmas.Bool.Decides.{nat_tests}
use Rattle.cs_types.specs.declared.Schema.{Schema}
use Rattle.edit_laws.specs.Edits.{edits_of}
use Rattle.cs_model.specs.declared.entry.Bound.TheVariants as bound
use Rattle.cs_model.specs.declared.entry.Refusal.{Refusal}
use Rattle.cs_model.specs.declared.entry.Refusal.TheVariants.{Reading}
use Rattle.cs_model.specs.declared.entry.Reply.{Reply}
use Rattle.cs_model.specs.declared.entry.Reply.TheVariants as reply
use Rattle.cs_model.specs.Changes.{Edit, Change}
use Rattle.cs_model.specs.State.{State, Txn, Half, with, txn_set, half_set, statistics_set}
use Rattle.cs_model.specs.Steps.{IsSegments, or_clock, fixed, txn_opened, next_opened, pinned, began, begin_reply, done_in, unwound, commits, gone, wrote, is_empty, numbered, replied}
use Rattle.log_laws.specs.Started.{own_in}
use Rattle.txn_table.specs.declared.txn.Txn as kept
use Rattle.txn_table.specs.Txns.{txn_of, opened, deepened, depth_of, own_of, fixed as fixed_in, with as with_txn}
use Rattle.group_directory.specs.Obstacles.{txn_as, txn_in}
use Rattle.statement_core.specs.declared.core_state.CoreState.{CoreState}
use Rattle.statement_core.specs.declared.core_state.HalfDone.{HalfDone}
use Rattle.statement_core.specs.Seats.{seat}
use Rattle.statement_core.specs.CoreState.{half_in, is_on, settings_of, state_of, IsBare}
use Rattle.statement_core.specs.Leaves.{commits_txn}
use Rattle.statement_core.specs.Settled.{wrote_or}
use Rattle.statement_core.proofs.Placing.{with_map, with_twice, with_same, with_own}

pub same_state : (m n : State) → m.changes ≡ n.changes → m.clock ≡ n.clock → m.txns ≡ n.txns → m.half ≡ n.half → m.statistics ≡ n.statistics → m.next ≡ n.next → m ≡ n
same_state m n c k t h s x = λ i. record { changes = c i; clock = k i; txns = t i; half = h i; statistics = s i; next = x i }

pub txn_twice : (m : State) (i : ℕ) (x y : Option Txn) → txn_set (txn_set m i x) i y ≡ txn_set m i y
txn_twice m i x y = same_state _ _ refl refl (with_twice m.txns i x y) refl refl refl

pub txn_same : (m : State) (i : ℕ) → txn_set m i (m.txns i) ≡ m
txn_same m i = same_state _ _ refl refl (with_same m.txns i) refl refl refl

-- ---- a transaction of the table is another

pub txns_with : (old new : ℕ → Option kept.Txn) (i : ℕ) (o : Option kept.Txn) → new ≡ with_txn old i o → (λ s. txn_in (new s)) ≡ with (λ s. txn_in (old s)) i (txn_in o)
txns_with old new i o e = ap all e ∙ with_map txn_in old i o
  where
    all : (ℕ → Option kept.Txn) → ℕ → Option Txn
    all f s = txn_in (f s)

-- the directory has other transactions alone
pub state_with : (changes : List Change) (old new : CoreState) (i : ℕ) (o : Option kept.Txn) → new.halves ≡ old.halves → new.settings ≡ old.settings → new.directory.clock ≡ old.directory.clock
    → txn_of new.directory.txns ≡ with_txn (txn_of old.directory.txns) i o → new.directory.txns.next ≡ old.directory.txns.next → state_of changes new ≡ txn_set (state_of changes old) i (txn_in o)
state_with changes old new i o halves settings clock txns next =
    same_state _ _ refl clock (txns_with (txn_of old.directory.txns) (txn_of new.directory.txns) i o txns) (ap (λ h. (state_of changes (record old { halves = h })).half) halves) (ap settings_of settings) next

-- ---- what a Start does to the open transactions

-- over a given transaction of the session
abbrev pinned_at : State → ℕ → Bool → Option Txn → State
pinned_at m i short txn = record m { txns = with m.txns i (Some (fixed (txn_opened txn m.next) short m.clock)); next = next_opened txn m.next }

-- an implicit transaction opens
pub opens : (m : State) (i : ℕ) → m.txns i ≡ None → record m { txns = with m.txns i (Some (record { number = m.next; depth = 0; snapshot = None; own = [] })); next = m.next + 1 } ≡ pinned m i true
opens m i e = ap (pinned_at m i true) (sym e)

-- or there is one
pub stays : (m : State) (i : ℕ) (txn : Txn) → m.txns i ≡ Some txn → m ≡ pinned m i true
stays m i txn e = sym (txn_same m i) ∙ ap (txn_set m i) e ∙ ap (pinned_at m i true) (sym e)

clock_is : (snapshot : Option ℕ) (clock : ℕ) → unwrap_or snapshot clock ≡ or_clock snapshot clock
clock_is None clock = refl
clock_is (Some s) clock = refl

pub fixed_as : (txn : Option kept.Txn) (clock : ℕ) → txn_in (fixed_in clock txn) ≡ option_map (λ (t : Txn). fixed t false clock) (txn_in txn)
fixed_as None clock = refl
fixed_as (Some txn) clock = at txn.snapshot
  where
    taken : ℕ → Txn
    taken s = record { number = txn.number; depth = txn.depth; snapshot = Some s; own = edits_of txn.own }

    at : (s : Option ℕ) → Some (taken (unwrap_or s clock)) ≡ Some (taken (or_clock s clock))
    at s = ap (λ n. Some (taken n)) (clock_is s clock)

-- and takes its snapshot
pub takes : (m mid : State) (i : ℕ) → mid ≡ pinned m i true → txn_set mid i (option_map (λ (t : Txn). fixed t false mid.clock) (mid.txns i)) ≡ pinned m i false
takes m mid i e =
    let txn = txn_opened (m.txns i) m.next in
    ap (λ (x : State). txn_set x i (option_map (λ (t : Txn). fixed t false x.clock) (x.txns i))) e
    ∙ ap (λ o. txn_set (pinned m i true) i (option_map (λ (t : Txn). fixed t false m.clock) o)) (with_own m.txns i (Some txn))
    ∙ same_state _ _ refl refl (with_twice m.txns i (Some txn) (Some (fixed txn false m.clock))) refl refl refl

-- ---- what the core's fields are

-- another half-done statement alone
pub state_half : (changes : List Change) (old : CoreState) (seats : List (Option HalfDone)) (i : ℕ) (half : Option HalfDone) → seat seats ≡ with (seat old.halves) i half
    → state_of changes (record old { halves = seats }) ≡ half_set (state_of changes old) i (half_in half)
state_half changes old seats i half e = same_state _ _ refl refl refl (ap all e ∙ with_map half_in (seat old.halves) i half) refl refl
  where
    all : (ℕ → Option HalfDone) → ℕ → Option Half
    all f s = half_in (f s)

-- the same transactions
pub state_kept : (changes : List Change) (old new : CoreState) → new.halves ≡ old.halves → new.settings ≡ old.settings → new.directory.clock ≡ old.directory.clock
    → txn_of new.directory.txns ≡ txn_of old.directory.txns → new.directory.txns.next ≡ old.directory.txns.next → state_of changes new ≡ state_of changes old
state_kept changes old new halves settings clock txns next = same_state _ _ refl clock (ap all txns) (ap (λ h. (state_of changes (record old { halves = h })).half) halves) (ap settings_of settings) next
  where
    all : (ℕ → Option kept.Txn) → ℕ → Option Txn
    all f s = txn_in (f s)

-- one opens
pub state_opened : (changes : List Change) (old new : CoreState) (i depth : ℕ) → new.halves ≡ old.halves → new.settings ≡ old.settings → new.directory.clock ≡ old.directory.clock
    → txn_of new.directory.txns ≡ with_txn (txn_of old.directory.txns) i (Some (opened old.directory.txns.next depth)) → new.directory.txns.next ≡ old.directory.txns.next + 1
    → state_of changes new ≡ record (state_of changes old) {
      txns = with (state_of changes old).txns i (Some (record { number = old.directory.txns.next; depth = depth; snapshot = None; own = [] }));
      next = old.directory.txns.next + 1;
    }
state_opened changes old new i depth halves settings clock txns next =
    same_state _ _ refl clock (txns_with (txn_of old.directory.txns) (txn_of new.directory.txns) i (Some (opened old.directory.txns.next depth)) txns)
    (ap (λ h. (state_of changes (record old { halves = h })).half) halves) (ap settings_of settings) next

-- another setting alone
pub state_set : (changes : List Change) (old : CoreState) (seats : List (Option Bool)) (i : ℕ) (on : Bool) → seat seats ≡ with (seat old.settings) i (Some on)
    → state_of changes (record old { settings = seats }) ≡ statistics_set (state_of changes old) i on
state_set changes old seats i on e = same_state _ _ refl refl refl refl (ap all e ∙ with_map is_on (seat old.settings) i (Some on)) refl
  where
    all : (ℕ → Option Bool) → ℕ → Bool
    all f s = is_on (f s)

-- ---- a transaction of the table, and that of the model

pub own_fixed : (clock : ℕ) (o : Option kept.Txn) → own_of (fixed_in clock o) ≡ own_of o
own_fixed clock None = refl
own_fixed clock (Some txn) = refl

pub own_model : (o : Option kept.Txn) → own_in (txn_in o) ≡ edits_of (own_of o)
own_model None = refl
own_model (Some txn) = refl

-- deeper by one
pub deepened_began : (m : State) (i : ℕ) (o : Option kept.Txn) (depth : ℕ) → depth_of o ≡ Some depth → txn_set m i (txn_in (deepened (depth + 1) o)) ≡ began m i (txn_in o)
deepened_began m i None depth e = absurd (cc e)
deepened_began m i (Some txn) depth e =
    let same : depth ≡ txn.depth = cc e in
    ap (λ (d : ℕ). txn_set m i (Some (record (txn_as txn) { depth = d + 1 }))) same

pub begin_done : (o : Option kept.Txn) (depth : ℕ) → depth_of o ≡ Some depth → depth < 32 → begin_reply (txn_in o) ≡ reply.Done
begin_done None depth e lt = absurd (cc e)
begin_done (Some txn) depth e lt =
    let same : depth ≡ txn.depth = cc e in
    let low : nat_lt txn.depth 32 ≡ true = grind (arith, nat_tests, same, lt) in
    ap (λ t. cond t reply.Done (reply.Refused (Reading 50001 1))) low

pub done_some : (o : Option kept.Txn) (number : ℕ) → IsSome o → done_in (txn_in o) number ≡ reply.Done
done_some None number there = absurd (cc there)
done_some (Some txn) number there = refl

-- less deep by one
pub deepened_unwound : (m : State) (i : ℕ) (o : Option kept.Txn) (depth : ℕ) → depth_of o ≡ Some depth → 1 < depth → txn_set m i (txn_in (deepened (depth - 1) o)) ≡ unwound m i (txn_in o)
deepened_unwound m i None depth e lt = absurd (cc e)
deepened_unwound m i (Some txn) depth e lt =
    let same : depth ≡ txn.depth = cc e in
    let deep : nat_le txn.depth 1 ≡ false = grind (arith, nat_tests, same, lt) in
    ap (λ (d : ℕ). txn_set m i (Some (record (txn_as txn) { depth = d - 1 }))) same
    ∙ sym (ap (λ t. cond t (commits m i (txn_as txn)) (txn_set m i (Some (record (txn_as txn) { depth = txn.depth - 1 })))) deep)

-- the outermost commits
pub unwound_commits : (m : State) (i : ℕ) (o : Option kept.Txn) (depth : ℕ) → depth_of o ≡ Some depth → depth ≤ 1 → commits_txn m i (txn_in o) ≡ unwound m i (txn_in o)
unwound_commits m i None depth e le = refl
unwound_commits m i (Some txn) depth e le =
    let same : depth ≡ txn.depth = cc e in
    let low : nat_le txn.depth 1 ≡ true = grind (arith, nat_tests, same, le) in
    sym (ap (λ t. cond t (commits m i (txn_as txn)) (txn_set m i (Some (record (txn_as txn) { depth = txn.depth - 1 })))) low)

-- an implicit transaction that has written nothing ends
pub implicit_ends : (m : State) (i : ℕ) (o : Option kept.Txn) (r : Reply) → m.txns i ≡ txn_in o → depth_of o ≡ Some 0 → IsBare (txn_in o) → ((refusal : Refusal) → r ≡ reply.Refused refusal → ⊥) → gone m i ≡ wrote_or m i [] r
implicit_ends m i None r has e bare not = absurd (cc e)
implicit_ends m i (Some txn) r has e bare not = at r not
  where
    flat : txn.depth ≡ 0
    flat = cc e

    zero_is : (txn.depth == 0) ≡ true
    zero_is = grind (arith, nat_tests, flat)

    ends : gone m i ≡ wrote m i (m.txns i) []
    ends =
        sym (ap (λ o. wrote m i o []) has
        ∙ ap (λ t. cond t (commits m i (txn_as txn)) (txn_set m i (Some (txn_as txn)))) zero_is
        ∙ ap (λ (own : List Edit). cond (is_empty own) (gone m i) (record (gone m i) { changes = m.changes ++ numbered (m.clock + 1) txn.number own; clock = m.clock + 1 })) (bare zero_is))

    at : (r : Reply) → ((refusal : Refusal) → r ≡ reply.Refused refusal → ⊥) → gone m i ≡ wrote_or m i [] r
    at reply.Done not = ends
    at (reply.Affected count) not = ends
    at (reply.Rows rows segments) not = ends
    at (reply.Groups lines buffered) not = ends
    at (reply.Segments lines) not = ends
    at (reply.Left groups) not = ends
    at (reply.Refused refusal) not = absurd (not refusal refl)

-- a report leaves the state as it is
pub segments_kept : (schema : Schema) (m : State) (i : ℕ) (r : Reply) → IsSegments r → m ≡ replied schema m i bound.SegmentReport r
segments_kept schema m i reply.Done h = absurd h
segments_kept schema m i (reply.Affected count) h = absurd h
segments_kept schema m i (reply.Rows rows segments) h = absurd h
segments_kept schema m i (reply.Groups lines buffered) h = absurd h
segments_kept schema m i (reply.Segments lines) h = refl
segments_kept schema m i (reply.Left groups) h = absurd h
segments_kept schema m i (reply.Refused refusal) h = absurd h
