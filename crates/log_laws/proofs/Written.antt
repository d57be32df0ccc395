-- What an event's actor has written, and what it commits.
use Rattle.std.proofs.Common.{◌≡◌, ℕ, ◌+◌, List, [], ◌∷◌, ◌++◌, refl, sym, ap, subst, ◌∙◌, cond, Bool, true, false, inl, inr, ◌⊎◌, Option, None, Some, All, nat_le}
use Rattle.std.specs.Prelude.{◌==◌}
use Rattle.std.specs.List.Sorted.{IsStrictlySortedBy}
use Rattle.std.proofs.lemmas.List.{append-nil}
use Rattle.std.proofs.lemmas.List.Elements.{All-contains}
use Rattle.std.proofs.lemmas.Option.{same_Some}
use Rattle.std.specs.BTreeMap.{insert_entry}
use Rattle.cs_types.specs.declared.Key.{Key}
use Rattle.cs_types.specs.declared.Schema.{Schema}
use Rattle.cs_types.specs.Keys.{key_cmp}
use Rattle.cs_types.proofs.KeyLemmas.{one_key}
use Rattle.cs_model.specs.declared.entry.Entry.{Entry}
use Rattle.cs_model.specs.declared.entry.Entry.TheVariants.{Start, Finish, End, Mover}
use Rattle.cs_model.specs.declared.entry.Bound.{Bound}
use Rattle.cs_model.specs.declared.entry.Bound.TheVariants as bound
use Rattle.cs_model.specs.declared.entry.Refusal.{Refusal}
use Rattle.cs_model.specs.declared.entry.Refusal.TheVariants.{Memory}
use Rattle.cs_model.specs.declared.entry.Reply.{Reply}
use Rattle.cs_model.specs.declared.entry.Reply.TheVariants as reply
use Rattle.cs_model.specs.Actors.{actor_of}
use Rattle.cs_model.specs.Changes.{Edit, Change, newest}
use Rattle.cs_model.specs.Floors.{snapshot_of}
use Rattle.cs_model.specs.State.{Txn, Half, State, Begin, schema_now, with}
use Rattle.cs_model.specs.Kinds.{is_of_table}
use Rattle.cs_model.specs.Obstacles.{keys_of, owns, is_above, IsFree}
use Rattle.cs_model.specs.Steps.{IsStep, IsFinish, IsReply, IsOutOfIds, numbered, staged, is_empty, committed, writes_in, wrote, began, unwound, accepted, refused, replied, rested, pinned, next_opened, or_clock, fixed, txn_opened, commits, gone, ends_txn}
use Rattle.cs_model.proofs.Tables.{sorted_none, sorted_put}
use Rattle.log_laws.specs.Frames.{IsPinnedAt, IsPinned}
use Rattle.log_laws.specs.Laws.{IsByKey, IsUnchanged, WritesPinned, IsPinnedWriter, IsPinnedHalf}
use Rattle.log_laws.proofs.Framed.{at_own}
use Rattle.log_laws.proofs.Owners.{has, has_staged, IsListed, IsAccepted, IsDefined, IsClear, no_keys, cleared, defined_of}

-- what is sound of an open transaction's own writes
abbrev pub IsKept : List Change → Option Txn → Type 0
IsKept changes o = IsByKey o × IsPinnedWriter o × IsUnchanged changes o

-- what an event of the actor s does over these changes, this clock and these transactions: it leaves the actor with the
-- transaction o, whose own writes are sound and whose snapshot is the clock or the one it had; and it commits the edits own,
-- by key, each of a key that the actor owned or that no other did
pub record Written (before : List Change) (clock : ℕ) (txns : ℕ → Option Txn) (s : ℕ) (now : List Change) (o : Option Txn) : Type 0 where
  pub kept : IsKept now o
  pub snapshot : (t : ℕ) → snapshot_of o ≡ Some t → (snapshot_of (txns s) ≡ Some t) ⊎ (t ≡ clock)
  pub txn : ℕ
  pub own : List Edit
  pub changes : now ≡ before ++ numbered (clock + 1) txn own
  pub ascend : IsStrictlySortedBy key_cmp (keys_of own)
  pub mine : (key : Key) → has own key ≡ true → (owns (txns s) key ≡ true) ⊎ IsFree txns s key

abbrev pub Writes : State → ℕ → State → Type 0
Writes m s after = Written m.changes m.clock m.txns s after.changes (after.txns s)

writes_same : (m : State) (s : ℕ) → IsKept m.changes (m.txns s) → Writes m s m
writes_same m s k = record {
  kept = k;
  snapshot = λ t e. inl e;
  txn = 0;
  own = [];
  changes = sym (append-nil m.changes);
  ascend = sorted_none;
  mine = λ key h. absurd (cc h);
}

writes_set : (m : State) (s : ℕ) (o : Option Txn) (next : ℕ) → IsKept m.changes o → ((t : ℕ) → snapshot_of o ≡ Some t → (snapshot_of (m.txns s) ≡ Some t) ⊎ (t ≡ m.clock))
    → Writes m s (record m { txns = with m.txns s o; next = next })
writes_set m s o next k snap = record {
  kept = subst (IsKept m.changes) (sym (at_own m.txns s o)) k;
  snapshot = λ t e. snap t (sym (ap snapshot_of (at_own m.txns s o)) ∙ e);
  txn = 0;
  own = [];
  changes = sym (append-nil m.changes);
  ascend = sorted_none;
  mine = λ key h. absurd (cc h);
}

writes_gone : (m : State) (s : ℕ) → Writes m s (gone m s)
writes_gone m s = writes_set m s None m.next (tt, tt, tt) (λ t e. absurd (cc e))

writes_if : (m : State) (s : ℕ) (x y : State) (b : Bool) → Writes m s x → Writes m s y → Writes m s (cond b x y)
writes_if m s x y true a c = a
writes_if m s x y false a c = c

-- each key of the transaction is one that the actor owned, or that no other did
abbrev IsMine : State → ℕ → Option Txn → Type 0
IsMine m s o = (key : Key) → owns o key ≡ true → (owns (m.txns s) key ≡ true) ⊎ IsFree m.txns s key

writes_committed : (m : State) (s : ℕ) (txn : Txn) → IsByKey (Some txn) → IsMine m s (Some txn) → Writes m s (record (gone m s) { changes = m.changes ++ committed (m.clock + 1) txn; clock = m.clock + 1 })
writes_committed m s txn up mine = record {
  kept = subst (IsKept (m.changes ++ committed (m.clock + 1) txn)) (sym (at_own m.txns s None)) (tt, tt, tt);
  snapshot = λ t e. absurd (cc (ap snapshot_of (at_own m.txns s None), e));
  txn = txn.number;
  own = txn.own;
  changes = refl;
  ascend = up;
  mine = mine;
}

writes_commits : (m : State) (s : ℕ) (txn : Txn) → IsByKey (Some txn) → IsMine m s (Some txn) → Writes m s (commits m s txn)
writes_commits m s txn up mine = writes_if m s _ _ (is_empty txn.own) (writes_gone m s) (writes_committed m s txn up mine)

-- ---- own writes with more laid over them

ascend_staged : (own edits : List Edit) → IsStrictlySortedBy key_cmp (keys_of own) → IsStrictlySortedBy key_cmp (keys_of (staged own edits))
ascend_staged own [] up = up
ascend_staged own (edit ∷ edits) up = ascend_staged (insert_entry key_cmp own edit.0 edit.1) edits (sorted_put edit.0 edit.1 own up)

abbrev laid_over : Option Txn → List Edit → Option Txn
laid_over None edits = None
laid_over (Some txn) edits = Some (record txn { own = staged txn.own edits })

-- of a listed key, what is clear of the listed ones
clear_at : (m : State) (s : ℕ) (snapshot : Option ℕ) (keys : List Key) (key : Key) → All (IsClear m s snapshot) keys → IsListed keys key → IsClear m s snapshot key
clear_at m s snapshot keys key clear c = subst (IsClear m s snapshot) (sym (one_key key c.0 c.2)) (All-contains (IsClear m s snapshot) keys c.0 clear c.1)

mine_staged : (m : State) (s : ℕ) (txn : Txn) (edits : List Edit) → m.txns s ≡ Some txn → All (IsClear m s txn.snapshot) (keys_of edits) → IsMine m s (laid_over (Some txn) edits)
mine_staged m s txn edits e clear key h = at (has_staged txn.own edits key h)
  where
    at : (has txn.own key ≡ true) ⊎ IsListed (keys_of edits) key → (owns (m.txns s) key ≡ true) ⊎ IsFree m.txns s key
    at (inl t) = inl (ap (λ o. owns o key) e ∙ t)
    at (inr c) = inr (clear_at m s txn.snapshot (keys_of edits) key clear c).0

unchanged_staged : (m : State) (s : ℕ) (txn : Txn) (edits : List Edit) → IsUnchanged m.changes (Some txn) → All (IsClear m s txn.snapshot) (keys_of edits) → IsUnchanged m.changes (laid_over (Some txn) edits)
unchanged_staged m s txn edits un clear key h = at (has_staged txn.own edits key h)
  where
    at : (has txn.own key ≡ true) ⊎ IsListed (keys_of edits) key → is_above (newest key m.changes) txn.snapshot ≡ false
    at (inl t) = un key t
    at (inr c) = (clear_at m s txn.snapshot (keys_of edits) key clear c).1

writes_settled : (m : State) (s : ℕ) (txn : Txn) (edits : List Edit) → m.txns s ≡ Some txn → IsKept m.changes (laid_over (Some txn) edits) → IsMine m s (laid_over (Some txn) edits) → Writes m s (wrote m s (Some txn) edits)
writes_settled m s txn edits e k mine = writes_if m s _ _ (txn.depth == 0)
    (writes_commits m s (record txn { own = staged txn.own edits }) k.0 mine)
    (writes_set m s (laid_over (Some txn) edits) m.next k (λ t at. inl (ap snapshot_of e ∙ at)))

writes_wrote : (m : State) (s : ℕ) (o : Option Txn) (edits : List Edit) → m.txns s ≡ o → IsKept m.changes o → IsPinnedWriter (laid_over o edits) → All (IsClear m s (snapshot_of o)) (keys_of edits)
    → Writes m s (wrote m s o edits)
writes_wrote m s None edits e k pin clear = writes_same m s (subst (IsKept m.changes) (sym e) k)
writes_wrote m s (Some txn) edits e k pin clear =
    writes_settled m s txn edits e (ascend_staged txn.own edits k.0, pin, unchanged_staged m s txn edits k.2 clear) (mine_staged m s txn edits e clear)

-- a transaction with a snapshot may write anything
pinned_laid : (o : Option Txn) (clock : ℕ) (edits : List Edit) → IsPinned o clock → IsPinnedWriter (laid_over o edits)
pinned_laid None clock edits p = absurd p
pinned_laid (Some txn) clock edits p = at txn.snapshot p
  where
    at : (x : Option ℕ) → IsPinnedAt x clock → WritesPinned x (staged txn.own edits)
    at None q = absurd q
    at (Some y) q = tt

pinned_none : (o : Option Txn) → IsPinnedWriter o → IsPinnedWriter (laid_over o [])
pinned_none None p = tt
pinned_none (Some txn) p = p

-- ---- a reply

owned_mine : (m : State) (s : ℕ) (o : Option Txn) → m.txns s ≡ o → IsMine m s o
owned_mine m s o e key h = inl (ap (λ x. owns x key) e ∙ h)

writes_began : (m : State) (s : ℕ) (o : Option Txn) → m.txns s ≡ o → IsKept m.changes o → Writes m s (began m s o)
writes_began m s None e k = writes_set m s (Some (record { number = m.next; depth = 1; snapshot = None; own = [] })) (m.next + 1) (sorted_none, refl, λ key h. absurd (cc h)) (λ t at. absurd (cc at))
writes_began m s (Some txn) e k = writes_set m s (Some (record txn { depth = txn.depth + 1 })) m.next k (λ t at. inl (ap snapshot_of e ∙ at))

writes_unwound : (m : State) (s : ℕ) (o : Option Txn) → m.txns s ≡ o → IsKept m.changes o → Writes m s (unwound m s o)
writes_unwound m s None e k = writes_same m s (subst (IsKept m.changes) (sym e) k)
writes_unwound m s (Some txn) e k = writes_if m s _ _ (nat_le txn.depth 1)
    (writes_commits m s txn k.0 (owned_mine m s (Some txn) e))
    (writes_set m s _ m.next k (λ t at. inl (ap snapshot_of e ∙ at)))

writes_refused : (m : State) (s : ℕ) (refusal : Refusal) → IsKept m.changes (m.txns s) → Writes m s (refused m s refusal)
writes_refused m s refusal k = writes_if m s _ _ (ends_txn (m.txns s) refusal) (writes_gone m s) (writes_same m s k)

-- a statement of the table that found memory has a snapshot
abbrev Pins : State → ℕ → Bound → Type 0
Pins m s b = is_of_table b ≡ true → IsPinned (m.txns s) m.clock

writes_accepted : (schema : Schema) (m : State) (s note : ℕ) (b : Bound) (r : Reply) → IsAccepted r → IsDefined schema m s note b r → IsKept m.changes (m.txns s) → Pins m s b → Writes m s (accepted schema (rested m s) s b)
writes_accepted schema m s note bound.Begin r not h k pins = writes_began (rested m s) s (m.txns s) refl k
writes_accepted schema m s note bound.Commit r not h k pins = writes_unwound (rested m s) s (m.txns s) refl k
writes_accepted schema m s note bound.Rollback r not h k pins = writes_gone (rested m s) s
writes_accepted schema m s note bound.Nothing r not h k pins = writes_same m s k
writes_accepted schema m s note (bound.Statistics on) r not h k pins = writes_same m s k
writes_accepted schema m s note (bound.Insert plan) r not h k pins =
    let edits = writes_in schema m.changes (m.txns s) (bound.Insert plan) in
    writes_wrote (rested m s) s (m.txns s) edits refl k (pinned_laid (m.txns s) m.clock edits (pins refl)) (cleared schema m s (m.txns s) (bound.Insert plan) r not h)
writes_accepted schema m s note (bound.Update plan) r not h k pins =
    let edits = writes_in schema m.changes (m.txns s) (bound.Update plan) in
    writes_wrote (rested m s) s (m.txns s) edits refl k (pinned_laid (m.txns s) m.clock edits (pins refl)) (cleared schema m s (m.txns s) (bound.Update plan) r not h)
writes_accepted schema m s note (bound.Delete condition) r not h k pins =
    let edits = writes_in schema m.changes (m.txns s) (bound.Delete condition) in
    writes_wrote (rested m s) s (m.txns s) edits refl k (pinned_laid (m.txns s) m.clock edits (pins refl)) (cleared schema m s (m.txns s) (bound.Delete condition) r not h)
writes_accepted schema m s note (bound.Select query) r not h k pins =
    writes_wrote (rested m s) s (m.txns s) [] refl k (pinned_none (m.txns s) k.1) (no_keys (IsClear m s (snapshot_of (m.txns s))))
writes_accepted schema m s note bound.GroupReport r not h k pins = writes_same m s k
writes_accepted schema m s note bound.SegmentReport r not h k pins = writes_same m s k
writes_accepted schema m s note (bound.Reorganize all) r not h k pins = writes_same m s k
writes_accepted schema m s note (bound.Refused refusal) r not h k pins = writes_same m s k

-- a reply that is no refusal comes only where the Start found memory
pins_of : (schema : Schema) (m : State) (s : ℕ) (half : Half) (r : Reply) → IsAccepted r → (r ≡ reply.Refused Memory) ⊎ ((half.short ≡ false) × (IsReply schema m s half r ⊎ IsOutOfIds schema m s half r))
    → IsPinnedHalf (Some half) (m.txns s) m.clock → Pins m s half.bound
pins_of schema m s half r not (inl e) pinned of_table = absurd (not Memory e)
pins_of schema m s half r not (inr h) pinned of_table = pinned of_table h.0

writes_replied : (schema : Schema) (m : State) (s note : ℕ) (b : Bound) (r : Reply) → IsDefined schema m s note b r → IsKept m.changes (m.txns s) → (IsAccepted r → Pins m s b) → Writes m s (replied schema (rested m s) s b r)
writes_replied schema m s note b reply.Done h k pins = let not : IsAccepted reply.Done = λ refusal e. cc e in writes_accepted schema m s note b reply.Done not h k (pins not)
writes_replied schema m s note b (reply.Affected count) h k pins = let not : IsAccepted (reply.Affected count) = λ refusal e. cc e in writes_accepted schema m s note b (reply.Affected count) not h k (pins not)
writes_replied schema m s note b (reply.Rows list segments) h k pins = let not : IsAccepted (reply.Rows list segments) = λ refusal e. cc e in writes_accepted schema m s note b (reply.Rows list segments) not h k (pins not)
writes_replied schema m s note b (reply.Groups lines buffered) h k pins = let not : IsAccepted (reply.Groups lines buffered) = λ refusal e. cc e in writes_accepted schema m s note b (reply.Groups lines buffered) not h k (pins not)
writes_replied schema m s note b (reply.Segments lines) h k pins = let not : IsAccepted (reply.Segments lines) = λ refusal e. cc e in writes_accepted schema m s note b (reply.Segments lines) not h k (pins not)
writes_replied schema m s note b (reply.Left groups) h k pins = let not : IsAccepted (reply.Left groups) = λ refusal e. cc e in writes_accepted schema m s note b (reply.Left groups) not h k (pins not)
writes_replied schema m s note b (reply.Refused refusal) h k pins = writes_refused (rested m s) s refusal k

writes_finish : (schema : Schema) (m : State) (s : ℕ) (h : Option Half) (r : Reply) (after : State) → IsFinish schema m s h r after → IsKept m.changes (m.txns s) → IsPinnedHalf h (m.txns s) m.clock → Writes m s after
writes_finish schema m s None r after x k p = absurd x
writes_finish schema m s (Some half) r after x k p =
    subst (λ z. Writes m s z) (sym x.1) (writes_replied schema m s half.note half.bound r (defined_of schema m s half r x.0) k (λ not. pins_of schema m s half r not x.0 p))

-- ---- a Start

unpinned : (x : Option ℕ) (clock : ℕ) (own : List Edit) (changes : List Change) → WritesPinned x own → ((key : Key) → has own key ≡ true → is_above (newest key changes) x ≡ false)
    → (key : Key) → has own key ≡ true → is_above (newest key changes) (Some (or_clock x clock)) ≡ false
unpinned None clock own changes p un key h = absurd (cc (sym (ap (λ es. has es key) p) ∙ h))
unpinned (Some s) clock own changes p un key h = un key h

kept_fixed : (changes : List Change) (o : Option Txn) (next clock : ℕ) (short : Bool) → IsKept changes o → IsKept changes (Some (fixed (txn_opened o next) short clock))
kept_fixed changes None next clock true k = (sorted_none, refl, λ key h. absurd (cc h))
kept_fixed changes None next clock false k = (sorted_none, tt, λ key h. absurd (cc h))
kept_fixed changes (Some txn) next clock true k = k
kept_fixed changes (Some txn) next clock false k = (k.0, tt, unpinned txn.snapshot clock txn.own changes k.1 k.2)

snapshot_fixed : (o : Option Txn) (next clock t : ℕ) (short : Bool) → snapshot_of (Some (fixed (txn_opened o next) short clock)) ≡ Some t → (snapshot_of o ≡ Some t) ⊎ (t ≡ clock)
snapshot_fixed None next clock t true e = absurd (cc e)
snapshot_fixed None next clock t false e = inr (sym (same_Some clock t e))
snapshot_fixed (Some txn) next clock t true e = inl e
snapshot_fixed (Some txn) next clock t false e = at txn.snapshot e
  where
    at : (x : Option ℕ) → Some (or_clock x clock) ≡ Some t → (x ≡ Some t) ⊎ (t ≡ clock)
    at None q = inr (sym (same_Some clock t q))
    at (Some y) q = inl q

writes_start : (m : State) (s : ℕ) (b : Bound) (short : Bool) → IsKept m.changes (m.txns s) → Writes m s (cond (is_of_table b) (pinned m s short) m)
writes_start m s b short k = writes_if m s _ _ (is_of_table b)
    (writes_set m s (Some (fixed (txn_opened (m.txns s) m.next) short m.clock)) (next_opened (m.txns s) m.next) (kept_fixed m.changes (m.txns s) m.next m.clock short k)
    (λ t e. snapshot_fixed (m.txns s) m.next m.clock t short e))
    (writes_same m s k)

pub writes_step : (begin : Begin) (m : State) (e : Entry) (after : State) → IsStep begin m e after → IsKept m.changes (m.txns (actor_of e)) → IsPinnedHalf (m.half (actor_of e)) (m.txns (actor_of e)) m.clock
    → Writes m (actor_of e) after
writes_step begin m (Start s b short) after x k p = subst (λ z. Writes m s z) (sym x.2) (writes_start m s b.value short k)
writes_step begin m (Finish s r) after x k p = writes_finish (schema_now begin m) m s (m.half s) r after x k p
writes_step begin m (End s) after x k p = subst (λ z. Writes m s z) (sym x.1) (writes_gone m s)
writes_step begin m (Mover actor work) after x k p = subst (λ z. Writes m (actor_of (Mover actor work)) z) (sym x) (writes_same m (actor_of (Mover actor work)) k)
