-- No two open transactions own one key.
use Rattle.std.proofs.Common.{suc, ◌≡◌, ◌≢◌, ℕ, ◌+◌, List, [], ◌∷◌, ◌++◌, refl, sym, ap, ap₂, subst, ◌∙◌, cond, Bool, true, false, inl, inr, ◌⊎◌, arith, Option, None, Some, Result, Ok, Err, All, Contains, ◌||◌, nat_le, Ordering, Less, Equal, Greater, is_eq}
use Rattle.std.specs.Prelude.{◌==◌}
use Rattle.std.specs.List.{list_any}
use Rattle.std.specs.Ordering.{match_ordering}
use Rattle.std.specs.Cmp.{Equal-is}
use Rattle.std.specs.BTreeMap.{insert_entry}
use Rattle.std.proofs.lemmas.Cmp.{int_cmp_total}
use Rattle.std.proofs.lemmas.List.Elements.{All-nil, All-contains}
use Rattle.std.proofs.lemmas.Bool.Decides.{nat_tests}
use Rattle.cs_types.specs.declared.Key.{Key}
use Rattle.cs_types.specs.declared.Schema.{Schema}
use Rattle.cs_types.specs.declared.Value.{Value}
use Rattle.cs_model.specs.declared.entry.Entry.{Entry}
use Rattle.cs_model.specs.declared.entry.Entry.TheVariants.{Start, Finish, End, Mover}
use Rattle.cs_model.specs.declared.entry.Bound.{Bound}
use Rattle.cs_model.specs.declared.entry.Bound.TheVariants as bound
use Rattle.cs_model.specs.declared.entry.Refusal.{Refusal}
use Rattle.cs_model.specs.declared.entry.Refusal.TheVariants.{Reading, Memory}
use Rattle.cs_model.specs.declared.entry.Reply.{Reply}
use Rattle.cs_model.specs.declared.entry.Reply.TheVariants as reply
use Rattle.cs_types.specs.Keys.{key_cmp, same_key}
use Rattle.cs_model.specs.Changes.{Edit, Table, newest}
use Rattle.cs_model.specs.Floors.{snapshot_of}
use Rattle.cs_model.specs.State.{Txn, Half, State, Begin, schema_now, with, txn_set, seen}
use Rattle.cs_model.specs.Actors.{actor_of}
use Rattle.cs_model.specs.Kinds.{is_of_table}
use Rattle.cs_model.specs.Answers.{writes}
use Rattle.cs_model.specs.Obstacles.{owns, is_above, IsFree, keys_of}
use Rattle.cs_model.specs.Steps.{IsStep, IsFinish, IsReply, IsReplyTo, IsOutOfIds, IsWriteReply, IsWriteReplyOf, staged, writes_in, edits_in, wrote, began, unwound, accepted, refused, replied, rested, pinned, next_opened, fixed, txn_opened, commits, committed, is_empty, gone, ends_txn}
use Rattle.log_laws.specs.Laws.{AreOwners}
use Rattle.log_laws.proofs.Framed.{framed, at_own}

or_left : (a b : Bool) → a ≡ true → (a || b) ≡ true
or_left true b e = refl
or_left false b e = absurd (cc e)

or_right : (a b : Bool) → b ≡ true → (a || b) ≡ true
or_right true b e = refl
or_right false b e = e

either : (a b : Bool) → (a || b) ≡ true → (a ≡ true) ⊎ (b ≡ true)
either true b e = inl refl
either false b e = inr e

-- ---- keys of own writes

abbrev pub has : List Edit → Key → Bool
has own key = list_any (λ (edit : Edit). same_key key edit.0) own

has_same : (own : List Edit) (a b : Key) → same_key a b ≡ true → has own a ≡ has own b
has_same [] a b e = refl
has_same (x ∷ own) a b e = ap₂ (λ t u. t || u) (ap is_eq (int_cmp_total.congr a.0 b.0 (x.0).0 ((Equal-is (key_cmp a b)).0 e))) (has_same own a b e)

owns_same : (o : Option Txn) (a b : Key) → same_key a b ≡ true → owns o a ≡ owns o b
owns_same None a b e = refl
owns_same (Some txn) a b e = has_same txn.own a b e

free_same : (txns : ℕ → Option Txn) (s : ℕ) (a b : Key) → same_key a b ≡ true → IsFree txns s b → IsFree txns s a
free_same txns s a b e free = λ other ne. owns_same (txns other) a b e ∙ free other ne

module _ (key k : Key) (v : Option (List Value)) where
  has_put_at : (x : Edit) (own : List Edit) (r : Ordering) → (has (insert_entry key_cmp own k v) key ≡ true → (has own key ≡ true) ⊎ (same_key key k ≡ true))
      → has (match_ordering r ((k, v) ∷ x ∷ own) ((x.0, v) ∷ own) (x ∷ insert_entry key_cmp own k v)) key ≡ true → (has (x ∷ own) key ≡ true) ⊎ (same_key key k ≡ true)
  has_put_at x own Less rest h = at (either (same_key key k) (has (x ∷ own) key) h)
    where
      at : (same_key key k ≡ true) ⊎ (has (x ∷ own) key ≡ true) → (has (x ∷ own) key ≡ true) ⊎ (same_key key k ≡ true)
      at (inl t) = inr t
      at (inr t) = inl t
  has_put_at x own Equal rest h = inl h
  has_put_at x own Greater rest h = at (either (same_key key x.0) (has (insert_entry key_cmp own k v) key) h)
    where
      on : (has own key ≡ true) ⊎ (same_key key k ≡ true) → (has (x ∷ own) key ≡ true) ⊎ (same_key key k ≡ true)
      on (inl t) = inl (or_right (same_key key x.0) (has own key) t)
      on (inr t) = inr t

      at : (same_key key x.0 ≡ true) ⊎ (has (insert_entry key_cmp own k v) key ≡ true) → (has (x ∷ own) key ≡ true) ⊎ (same_key key k ≡ true)
      at (inl t) = inl (or_left (same_key key x.0) (has own key) t)
      at (inr t) = on (rest t)

  has_put : (own : List Edit) → has (insert_entry key_cmp own k v) key ≡ true → (has own key ≡ true) ⊎ (same_key key k ≡ true)
  has_put [] h = at (either (same_key key k) false h)
    where
      at : (same_key key k ≡ true) ⊎ (false ≡ true) → (has [] key ≡ true) ⊎ (same_key key k ≡ true)
      at (inl t) = inr t
      at (inr f) = absurd (cc f)
  has_put (x ∷ own) h = has_put_at x own (key_cmp k x.0) (has_put own) h

-- the key is one of these
abbrev pub IsListed : List Key → Key → Type 0
IsListed keys key = (k : Key) × Contains keys k × (same_key key k ≡ true)

pub has_staged : (own edits : List Edit) (key : Key) → has (staged own edits) key ≡ true → (has own key ≡ true) ⊎ IsListed (keys_of edits) key
has_staged own [] key h = inl h
has_staged own (e ∷ edits) key h = at (has_staged (insert_entry key_cmp own e.0 e.1) edits key h)
  where
    first : (has own key ≡ true) ⊎ (same_key key e.0 ≡ true) → (has own key ≡ true) ⊎ IsListed (keys_of (e ∷ edits)) key
    first (inl t) = inl t
    first (inr t) = inr (e.0, (0, omega arith, refl), t)

    behind : IsListed (keys_of edits) key → IsListed (keys_of (e ∷ edits)) key
    behind c = let at = c.1 in (c.0, (suc at.0, (let lt = at.1 in omega (arith, lt)), at.2), c.2)

    at : (has (insert_entry key_cmp own e.0 e.1) key ≡ true) ⊎ IsListed (keys_of edits) key → (has own key ≡ true) ⊎ IsListed (keys_of (e ∷ edits)) key
    at (inl t) = first (has_put key e.0 e.1 own t)
    at (inr c) = inr (behind c)

-- ---- an event's actor owns nothing more, but what was free

abbrev pub Owned : State → ℕ → State → Type 0
Owned m s after = (key : Key) → owns (after.txns s) key ≡ true → (owns (m.txns s) key ≡ true) ⊎ IsFree m.txns s key

owned_same : (m : State) (s : ℕ) → Owned m s m
owned_same m s key h = inl h

owned_set : (m : State) (s : ℕ) (o : Option Txn) (next : ℕ) → ((key : Key) → owns o key ≡ true → (owns (m.txns s) key ≡ true) ⊎ IsFree m.txns s key) → Owned m s (record m { txns = with m.txns s o; next = next })
owned_set m s o next f key h = f key (subst (λ x. owns x key ≡ true) (at_own m.txns s o) h)

owned_gone : (m n : State) (s : ℕ) → n.txns s ≡ None → Owned m s n
owned_gone m n s e key h = absurd (cc (ap (λ o. owns o key) e, h))

owned_if : (m : State) (s : ℕ) (x y : State) (b : Bool) → Owned m s x → Owned m s y → Owned m s (cond b x y)
owned_if m s x y true a c = a
owned_if m s x y false a c = c

owned_rolled : (m : State) (s : ℕ) → Owned m s (gone m s)
owned_rolled m s = owned_gone m (gone m s) s (at_own m.txns s None)

owned_commits : (m : State) (s : ℕ) (txn : Txn) → Owned m s (commits m s txn)
owned_commits m s txn = owned_if m s _ _ (is_empty txn.own) (owned_rolled m s)
    (owned_gone m (record (gone m s) { changes = m.changes ++ committed (m.clock + 1) txn; clock = m.clock + 1 }) s (at_own m.txns s None))

owned_kept : (m : State) (s : ℕ) (o : Option Txn) (txn : Txn) → m.txns s ≡ o → ((key : Key) → owns (Some txn) key ≡ true → (owns o key ≡ true) ⊎ IsFree m.txns s key) → Owned m s (txn_set m s (Some txn))
owned_kept m s o txn e f = owned_set m s (Some txn) m.next (λ key h. subst (λ x. (owns x key ≡ true) ⊎ IsFree m.txns s key) (sym e) (f key h))

owned_wrote : (m : State) (s : ℕ) (o : Option Txn) (edits : List Edit) → m.txns s ≡ o → All (λ key. IsFree m.txns s key) (keys_of edits) → Owned m s (wrote m s o edits)
owned_wrote m s None edits e free = owned_same m s
owned_wrote m s (Some txn) edits e free = owned_if m s _ _ (txn.depth == 0)
    (owned_commits m s (record txn { own = staged txn.own edits }))
    (owned_kept m s (Some txn) (record txn { own = staged txn.own edits }) e (λ key h. free_or key (has_staged txn.own edits key h)))
  where
    free_or : (key : Key) → (has txn.own key ≡ true) ⊎ IsListed (keys_of edits) key → (has txn.own key ≡ true) ⊎ IsFree m.txns s key
    free_or key (inl t) = inl t
    free_or key (inr c) = inr (free_same m.txns s key c.0 c.2 (All-contains (λ k. IsFree m.txns s k) (keys_of edits) c.0 free c.1))

owned_began : (m : State) (s : ℕ) (o : Option Txn) → m.txns s ≡ o → Owned m s (began m s o)
owned_began m s None e = owned_set m s (Some (record { number = m.next; depth = 1; snapshot = None; own = [] })) (m.next + 1) (λ key h. absurd (cc h))
owned_began m s (Some txn) e = owned_kept m s (Some txn) (record txn { depth = txn.depth + 1 }) e (λ key h. inl h)

owned_unwound : (m : State) (s : ℕ) (o : Option Txn) → m.txns s ≡ o → Owned m s (unwound m s o)
owned_unwound m s None e = owned_same m s
owned_unwound m s (Some txn) e = owned_if m s _ _ (nat_le txn.depth 1) (owned_commits m s txn) (owned_kept m s (Some txn) _ e (λ key h. inl h))

owned_refused : (m : State) (s : ℕ) (refusal : Refusal) → Owned m s (refused m s refusal)
owned_refused m s refusal = owned_if m s _ _ (ends_txn (m.txns s) refusal) (owned_rolled m s) (owned_same m s)

-- ---- a write that is accepted had no obstacle

abbrev pub IsAccepted : Reply → Type 0
IsAccepted r = (refusal : Refusal) → r ≡ reply.Refused refusal → ⊥

abbrev pub IsRefused : Reply → Type 0
IsRefused r = (refusal : Refusal) × (r ≡ reply.Refused refusal)

-- no other transaction has the key, and no change of it is above the snapshot
abbrev pub IsClear : State → ℕ → Option ℕ → Key → Type 0
IsClear m s snapshot key = IsFree m.txns s key × (is_above (newest key m.changes) snapshot ≡ false)

pub no_keys : (P : Key → Type 0) → All P (keys_of [])
no_keys P = All-nil P

cleared_of : (m : State) (s : ℕ) (snapshot : Option ℕ) (table : Table) (b : Bound) (w : Result (List Edit) Refusal) (r : Reply) → IsAccepted r
    → IsRefused r ⊎ IsWriteReplyOf m s snapshot table b w r → All (IsClear m s snapshot) (keys_of (edits_in w))
cleared_of m s snapshot table b w r not (inl e) = absurd (not e.0 e.1)
cleared_of m s snapshot table b (Err refusal) r not (inr h) = absurd (not refusal h)
cleared_of m s snapshot table b (Ok edits) reply.Done not (inr h) = absurd h
cleared_of m s snapshot table b (Ok edits) (reply.Affected count) not (inr h) = λ k d lt. ((h.0 k d lt).0, (h.0 k d lt).1)
cleared_of m s snapshot table b (Ok edits) (reply.Rows list segments) not (inr h) = absurd h
cleared_of m s snapshot table b (Ok edits) (reply.Groups lines buffered) not (inr h) = absurd h
cleared_of m s snapshot table b (Ok edits) (reply.Segments lines) not (inr h) = absurd h
cleared_of m s snapshot table b (Ok edits) (reply.Left groups) not (inr h) = absurd h
cleared_of m s snapshot table b (Ok edits) (reply.Refused refusal) not (inr h) = absurd (not refusal refl)

pub cleared : (schema : Schema) (m : State) (s : ℕ) (o : Option Txn) (b : Bound) (r : Reply) → IsAccepted r
    → IsRefused r ⊎ IsWriteReply schema m s o b r → All (IsClear m s (snapshot_of o)) (keys_of (writes_in schema m.changes o b))
cleared schema m s None b r not h = no_keys (IsClear m s None)
cleared schema m s (Some txn) b r not h = cleared_of m s txn.snapshot (seen m.changes txn) b (writes schema (seen m.changes txn) b) r not h

freed : (schema : Schema) (m : State) (s : ℕ) (o : Option Txn) (b : Bound) (r : Reply) → IsAccepted r
    → IsRefused r ⊎ IsWriteReply schema m s o b r → All (λ key. IsFree m.txns s key) (keys_of (writes_in schema m.changes o b))
freed schema m s o b r not h = λ k d lt. (cleared schema m s o b r not h k d lt).0

-- a refusal, or the reply that is defined
abbrev pub IsDefined : Schema → State → ℕ → ℕ → Bound → Reply → Type 0
IsDefined schema m s note b r = IsRefused r ⊎ IsReplyTo schema m s note b r

owned_accepted : (schema : Schema) (m : State) (s note : ℕ) (b : Bound) (r : Reply) → IsAccepted r → IsDefined schema m s note b r → Owned m s (accepted schema (rested m s) s b)
owned_accepted schema m s note bound.Begin r not h = owned_began (rested m s) s (m.txns s) refl
owned_accepted schema m s note bound.Commit r not h = owned_unwound (rested m s) s (m.txns s) refl
owned_accepted schema m s note bound.Rollback r not h = owned_rolled (rested m s) s
owned_accepted schema m s note bound.Nothing r not h = owned_same m s
owned_accepted schema m s note (bound.Statistics on) r not h = owned_same m s
owned_accepted schema m s note (bound.Insert plan) r not h = owned_wrote (rested m s) s (m.txns s) (writes_in schema m.changes (m.txns s) (bound.Insert plan)) refl (freed schema m s (m.txns s) (bound.Insert plan) r not h)
owned_accepted schema m s note (bound.Update plan) r not h = owned_wrote (rested m s) s (m.txns s) (writes_in schema m.changes (m.txns s) (bound.Update plan)) refl (freed schema m s (m.txns s) (bound.Update plan) r not h)
owned_accepted schema m s note (bound.Delete condition) r not h =
    owned_wrote (rested m s) s (m.txns s) (writes_in schema m.changes (m.txns s) (bound.Delete condition)) refl (freed schema m s (m.txns s) (bound.Delete condition) r not h)
owned_accepted schema m s note (bound.Select query) r not h = owned_wrote (rested m s) s (m.txns s) [] refl (no_keys (λ key. IsFree m.txns s key))
owned_accepted schema m s note bound.GroupReport r not h = owned_same m s
owned_accepted schema m s note bound.SegmentReport r not h = owned_same m s
owned_accepted schema m s note (bound.Reorganize all) r not h = owned_same m s
owned_accepted schema m s note (bound.Refused refusal) r not h = owned_same m s

owned_replied : (schema : Schema) (m : State) (s note : ℕ) (b : Bound) (r : Reply) → IsDefined schema m s note b r → Owned m s (replied schema (rested m s) s b r)
owned_replied schema m s note b reply.Done h = owned_accepted schema m s note b reply.Done (λ refusal e. cc e) h
owned_replied schema m s note b (reply.Affected count) h = owned_accepted schema m s note b (reply.Affected count) (λ refusal e. cc e) h
owned_replied schema m s note b (reply.Rows list segments) h = owned_accepted schema m s note b (reply.Rows list segments) (λ refusal e. cc e) h
owned_replied schema m s note b (reply.Groups lines buffered) h = owned_accepted schema m s note b (reply.Groups lines buffered) (λ refusal e. cc e) h
owned_replied schema m s note b (reply.Segments lines) h = owned_accepted schema m s note b (reply.Segments lines) (λ refusal e. cc e) h
owned_replied schema m s note b (reply.Left groups) h = owned_accepted schema m s note b (reply.Left groups) (λ refusal e. cc e) h
owned_replied schema m s note b (reply.Refused refusal) h = owned_refused (rested m s) s refusal

-- want of memory and want of a group id are refusals
pub defined_of : (schema : Schema) (m : State) (s : ℕ) (half : Half) (r : Reply) → (r ≡ reply.Refused Memory) ⊎ ((half.short ≡ false) × (IsReply schema m s half r ⊎ IsOutOfIds schema m s half r))
    → IsDefined schema m s half.note half.bound r
defined_of schema m s half r (inl e) = inl (Memory, e)
defined_of schema m s half r (inr h) = at h.1
  where
    at : IsReply schema m s half r ⊎ IsOutOfIds schema m s half r → IsDefined schema m s half.note half.bound r
    at (inl given) = inr given
    at (inr out) = inl (Reading 50001 1, out.refuses)

owned_finish : (schema : Schema) (m : State) (s : ℕ) (h : Option Half) (r : Reply) (after : State) → IsFinish schema m s h r after → Owned m s after
owned_finish schema m s None r after x = absurd x
owned_finish schema m s (Some half) r after x = subst (λ z. Owned m s z) (sym x.1) (owned_replied schema m s half.note half.bound r (defined_of schema m s half r x.0))

owned_opened : (o : Option Txn) (next clock : ℕ) (short : Bool) (key : Key) → owns (Some (fixed (txn_opened o next) short clock)) key ≡ true → owns o key ≡ true
owned_opened None next clock short key h = absurd (cc h)
owned_opened (Some txn) next clock short key h = h

owned_start : (m : State) (s : ℕ) (b : Bound) (short : Bool) → Owned m s (cond (is_of_table b) (pinned m s short) m)
owned_start m s b short = owned_if m s _ _ (is_of_table b)
    (owned_set m s (Some (fixed (txn_opened (m.txns s) m.next) short m.clock)) (next_opened (m.txns s) m.next) (λ key h. inl (owned_opened (m.txns s) m.next m.clock short key h)))
    (owned_same m s)

pub owned_step : (begin : Begin) (m : State) (e : Entry) (after : State) → IsStep begin m e after → Owned m (actor_of e) after
owned_step begin m (Start s b short) after x = subst (λ z. Owned m s z) (sym x.2) (owned_start m s b.value short)
owned_step begin m (Finish s r) after x = owned_finish (schema_now begin m) m s (m.half s) r after x
owned_step begin m (End s) after x = subst (λ z. Owned m s z) (sym x.1) (owned_rolled m s)
owned_step begin m (Mover actor work) after x = subst (λ z. Owned m (actor_of (Mover actor work)) z) (sym x) (owned_same m (actor_of (Mover actor work)))

-- ---- the law

pub equal : (a b : ℕ) → (a == b) ≡ true → a ≡ b
equal a b e = grind (arith, nat_tests)

pub apart_is : (a b : ℕ) → (a == b) ≡ false → a ≢ b
apart_is a b e = λ is. absurd (grind (arith, nat_tests, is, e))

pub not_true : (b : Bool) → (b ≡ true → ⊥) → b ≡ false
not_true true h = absurd (h refl)
not_true false h = refl

pub own_gains : (m : State) (n b : ℕ) (key : Key) → AreOwners m → (n == b) ≡ false → (owns (m.txns n) key ≡ true) ⊎ IsFree m.txns n key → owns (m.txns b) key ≡ false
own_gains m n b key all ne (inl t) = all n b key ne t
own_gains m n b key all ne (inr free) = free b (λ is. apart_is n b ne (sym is))

pub owners_at : (begin : Begin) (m : State) (e : Entry) (after : State) → IsStep begin m e after → AreOwners m → (a b : ℕ) (key : Key) (t u : Bool) → (a == actor_of e) ≡ t → (b == actor_of e) ≡ u → (a == b) ≡ false
    → owns (after.txns a) key ≡ true → owns (after.txns b) key ≡ false
owners_at begin m e after x all a b key true true t u ne h = absurd (apart_is a b ne (equal a (actor_of e) t ∙ sym (equal b (actor_of e) u)))
owners_at begin m e after x all a b key true false t u ne h =
    let f = framed begin m e after x in
    let is : a ≡ actor_of e = equal a (actor_of e) t in
    let ne' : (actor_of e == b) ≡ false = subst (λ n. (n == b) ≡ false) is ne in
    let own : owns (after.txns (actor_of e)) key ≡ true = subst (λ n. owns (after.txns n) key ≡ true) is h in
    ap (λ o. owns o key) (f.txns b u) ∙ own_gains m (actor_of e) b key all ne' (owned_step begin m e after x key own)
owners_at begin m e after x all a b key false true t u ne h =
    let f = framed begin m e after x in
    let is : b ≡ actor_of e = equal b (actor_of e) u in
    let was : owns (m.txns a) key ≡ true = sym (ap (λ o. owns o key) (f.txns a t)) ∙ h in
    let ne' : (actor_of e == a) ≡ false = grind (arith, nat_tests, t) in
    not_true (owns (after.txns b) key) (λ has.
    let own : owns (after.txns (actor_of e)) key ≡ true = subst (λ n. owns (after.txns n) key ≡ true) is has in
    cc (sym was, own_gains m (actor_of e) a key all ne' (owned_step begin m e after x key own)))
owners_at begin m e after x all a b key false false t u ne h =
    let f = framed begin m e after x in
    ap (λ o. owns o key) (f.txns b u) ∙ all a b key ne (sym (ap (λ o. owns o key) (f.txns a t)) ∙ h)
