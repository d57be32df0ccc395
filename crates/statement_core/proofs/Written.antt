-- The Finish of a write.
use Rattle.std.proofs.Common.{◌≡◌, ◌≢◌, ◌<◌, ℕ, ◌+◌, ◌++◌, List, [], ◌∷◌, map, filter, get_or, refl, sym, ap, subst, ◌∙◌, cond, inl, inr, arith, Bool, true, false, All, T, Option, None, Some, Ok}
use Rattle.std.specs.Prelude.{◌==◌, ◌||◌, AllPairs, Contains, IsSome}
use Rattle.std.specs.declared.cmp.Ordering.TheVariants.{Less}
use Rattle.std.specs.FinMap.Entries.{is_sorted}
use Rattle.std.proofs.lemmas.List.Elements.{All-head, All-tail, All-cons, All-nil, All-map}
use Rattle.std.proofs.lemmas.List.{get_or_default}
use Rattle.std.proofs.lemmas.List.Kept.{AllPairs-filter}
use Rattle.cs_types.specs.declared.Key.{Key}
use Rattle.cs_types.specs.declared.Schema.{Schema}
use Rattle.cs_types.specs.Keys.{key_cmp}
use Rattle.cs_model.specs.declared.entry.Bound.{Bound}
use Rattle.cs_model.specs.declared.entry.Refusal.{Refusal}
use Rattle.cs_model.specs.declared.entry.Refusal.TheVariants.{Reading, Memory}
use Rattle.cs_model.specs.declared.entry.Reply.{Reply}
use Rattle.cs_model.specs.declared.entry.Reply.TheVariants as reply
use Rattle.cs_model.specs.Answers.{writes}
use Rattle.cs_model.specs.Changes.{Edit, Table, Change}
use Rattle.cs_model.specs.Floors as floors
use Rattle.cs_model.specs.Kinds.{is_of_table}
use Rattle.cs_model.specs.Obstacles.{has_row, keys_of, owns, is_present, IsObstacle, IsJudged}
use Rattle.cs_model.specs.State.{Txn, Half, State, Begin, txn_set, seen}
use Rattle.cs_model.specs.Steps as model
use Rattle.cs_model.specs.Steps.{IsReply, IsWriteReply, IsWriteReplyOf, IsWritten, commits, committed, edits_in, writes_in, ends_txn, gone, is_empty, numbered, refused, accepted, replied, settled, wrote}
use Rattle.log_laws.specs.Laws.{IsByKey}
use Rattle.log_laws.specs.Started.{Begun, seen_by, is_implicit, Sees}
use Rattle.edit_laws.specs.Edits.{edit_of, edits_of}
use Rattle.edit_laws.proofs.Writes.{staged_edits}
use Rattle.write_set.specs.declared.write.Write.{Write}
use Rattle.write_set.specs.Writes.{staged, write_keys}
use Rattle.txn_table.specs.declared.txn.Txn as kept
use Rattle.txn_table.specs.Txns.{txn_of, widened, own_of, snapshot_of, snapshots_in, Owns}
use Rattle.std.specs.declared.alloc.Global.{Global}
use Rattle.std.specs.declared.sync.Arc.{Arc}
use Rattle.group_book.specs.Book.{Book}
use Rattle.group_book.specs.Commits.{Sizes, is_one_of, replaced_by, inserted_by, after_commit, draws_past}
use Rattle.group_log.specs.Followed.{book_with, committed_edits, ShowsBook}
use Rattle.group_view.specs.Parcels as parcels
use Rattle.group_directory.specs.declared.committing.CommitRefusal.{CommitRefusal}
use Rattle.group_directory.specs.declared.committing.CommitRefusal.TheVariants as cause
use Rattle.group_directory.specs.Calls.{replaced_in, IsParcelFor, IsCommitOf}
use Rattle.group_directory.specs.Stands.{Stands}
use Rattle.group_directory.specs.Laws.{sizes_of, MayStage}
use Rattle.group_directory.specs.Obstacles.{txn_as, txn_in}
use Rattle.group_directory.proofs.CommitLaws.{written_up}
use Rattle.group_directory.proofs.KeyLaws.{keys_are, sorted_keys}
use Rattle.group_directory.proofs.ObstacleLaws.{owner_is}
use Rattle.group_directory.proofs.TxnLaws.{staged_commits}
use Rattle.group_view.specs.declared.claim.Parcel.{Parcel}
use Rattle.statement_core.specs.declared.core_state.CoreState.{CoreState}
use Rattle.statement_core.specs.CoreState.{state_of, groups_of, IsSame, IsBare}
use Rattle.statement_core.specs.Leaves.{commits_txn, committed_in, Leaves}
use Rattle.statement_core.specs.Outcomes.{IsParcelled, AreLoaded, AreWritesOf}
use Rattle.statement_core.specs.Settled.{refusal_of, Ends, IsWritingAt, IsPast, CommitGives}
use Rattle.statement_core.proofs.Committed.{added}
use Rattle.statement_core.proofs.Decided.{seen_in, begun_seen, snapshot_is, write_of_table, write_reply, write_accepted}
use Rattle.statement_core.proofs.Distinct.{writes_apart}
use Rattle.statement_core.proofs.Ending.{said_plain, said_full, ends_settled, ends_short}
use Rattle.statement_core.proofs.Judging.{kept_is, judged_over}
use Rattle.statement_core.proofs.Keyed.{Apart, sorted_from, staged_same, staged_none, key_inside}
use Rattle.statement_core.proofs.Placing.{with_own}
use Rattle.statement_core.proofs.States.{txn_twice}
use Rattle.statement_core.proofs.Stills.{sizes_same, same_then, same_leaves, leaves_over}

-- ---- lists

-- each key is smaller than all later ones
abbrev pub Rising : List Key → Type 0
Rising keys = AllPairs (λ (a b : Key). key_cmp a b ≡ Less) keys

all_from_map : {X Y : Type 0} (P : Y → Type 0) (f : X → Y) (xs : List X) → All P (map f xs) → All (λ x. P (f x)) xs
all_from_map P f [] all = All-nil (λ x. P (f x))
all_from_map P f (x ∷ xs) all = All-cons (λ x. P (f x)) x xs (All-head P (f x) (map f xs) all) (all_from_map P f xs (All-tail P (f x) (map f xs) all))

none_kept : (test : Key → Bool) (keys : List Key) → All (λ key. test key ≡ false) keys → filter test keys ≡ []
none_kept test [] all = refl
none_kept test (key ∷ keys) all =
    ap (λ b. cond b (key ∷ filter test keys) (filter test keys)) (All-head (λ k. test k ≡ false) key keys all) ∙ none_kept test keys (All-tail (λ k. test k ≡ false) key keys all)

some_edits : (ws : List Write) → ws ≢ [] → is_empty (edits_of ws) ≡ false
some_edits [] some = absurd (some refl)
some_edits (write ∷ ws) some = refl

none_edits : (ws : List Write) → edits_of ws ≡ [] → ws ≡ []
none_edits [] none = refl
none_edits (write ∷ ws) none = absurd (cc none)

-- where no write replaces a row, there are no replaced keys
none_replaced : (ws : List Write) → All (λ (write : Write). write.replaces ≡ false) ws → replaced_in ws ≡ []
none_replaced [] fresh = refl
none_replaced (write ∷ ws) fresh =
    ap (λ (t : Bool). write_keys (cond t (write ∷ filter (λ (w : Write). w.replaces) ws) (filter (λ (w : Write). w.replaces) ws))) (All-head (λ (w : Write). w.replaces ≡ false) write ws fresh)
    ∙ none_replaced ws (All-tail (λ (w : Write). w.replaces ≡ false) write ws fresh)

-- ---- a transaction of the table

snapshot_kept : (o : Option kept.Txn) (s : ℕ) → floors.snapshot_of (txn_in o) ≡ Some s → snapshot_of o ≡ Some s
snapshot_kept None s e = absurd (cc e)
snapshot_kept (Some txn) s e = e

pub txn_there : (o : Option kept.Txn) (s : ℕ) → snapshot_of o ≡ Some s → (txn : kept.Txn) × (o ≡ Some txn)
txn_there None s e = absurd (cc e)
txn_there (Some txn) s e = (txn, refl)

-- a transaction that owns a key has it in the model
owns_is : (o : Option kept.Txn) (key : Key) → Owns o key → owns (txn_in o) key ≡ true
owns_is None key h = absurd (omega (arith, h.2))
owns_is (Some txn) key h = (owner_is (Some txn) key txn.number (refl, h)).0

-- ---- what a session's transaction was is not seen in what it commits

pub commits_over : (m : State) (i : ℕ) (was : Option Txn) (txn : Txn) → commits (txn_set m i was) i txn ≡ commits m i txn
commits_over m i was txn = at (is_empty txn.own)
  where
    over : State → State
    over x = record x { changes = m.changes ++ numbered (m.clock + 1) txn.number txn.own; clock = m.clock + 1 }

    at : (none : Bool) → cond none (gone (txn_set m i was) i) (over (gone (txn_set m i was) i)) ≡ cond none (gone m i) (over (gone m i))
    at true = txn_twice m i was None
    at false = ap over (txn_twice m i was None)

-- a refusal of an implicit transaction leaves none
pub refused_implicit : (m : State) (i : ℕ) (txn : Txn) (refusal : Refusal) → m.txns i ≡ Some txn → (txn.depth == 0) ≡ true → refused m i refusal ≡ gone m i
refused_implicit m i txn refusal has implicit = ap (λ (t : Bool). cond t (gone m i) m) (ap (λ o. ends_txn o refusal) has ∙ ap (λ t. t || model.is_changed refusal) implicit)

module _ (begin : Begin) (changes : List Change) (held : CoreState) (session : ℕ) (half : Half) (list : List Write) (present : List Key) (affected : ℕ) (parcel : Option Parcel)
    (w : IsWritingAt begin changes held session half list present affected parcel) where
  begun : Begun
  begun = w.begun

  abbrev m : State
  m = state_of changes held

  abbrev edits : List Edit
  edits = let g = w.gives in g.edits

  are : AreWritesOf (sizes_of held.directory) w.begun (let g = w.gives in g.edits) list present affected parcel
  are = let g = w.gives in g.are

  sees : Sees (state_of changes held) session w.begun
  sees = let h = w.holds in h.sees (ap is_of_table w.bound ∙ write_of_table half.bound w.writes) (w.short_is ∙ w.found)

  abbrev s : ℕ
  s = let g = w.begun in g.snapshot

  -- the transaction has that snapshot
  pub snap : snapshots_in (txn_of held.directory.txns) session ≡ Some (let g = w.begun in g.snapshot)
  snap = let k = sees in snapshot_kept (txn_of held.directory.txns session) (let g = w.begun in g.snapshot) k.snapshot

  abbrev found_txn : (txn : kept.Txn) × (txn_of held.directory.txns session ≡ Some txn)
  found_txn = txn_there (txn_of held.directory.txns session) (let g = w.begun in g.snapshot) snap

  abbrev pub txn : kept.Txn
  txn = found_txn.0

  pub has : txn_of held.directory.txns session ≡ Some txn
  has = found_txn.1

  pub opened : IsSome (txn_of held.directory.txns session)
  opened = subst IsSome (sym has) refl

  pub taken : IsSome (snapshots_in (txn_of held.directory.txns) session)
  taken = subst IsSome (sym snap) refl

  pub keys_up : Rising (write_keys list)
  keys_up = let a = are in written_up list a.order

  pub present_up : Rising present
  present_up = let a = are in subst Rising (sym a.twice) (AllPairs-filter (λ x y. key_cmp x y ≡ Less) (is_present (let g = w.begun in g.bound) edits (seen_by w.begun)) (write_keys list) keys_up)

  -- ---- how it is judged

  abbrev test : Key → Bool
  test = is_present (let g = w.begun in g.bound) edits (seen_by w.begun)

  each_key : (list : List Write) → All (Contains edits) (edits_of list) → All (Contains (keys_of edits)) (write_keys list)
  each_key [] all = All-nil (Contains (keys_of edits))
  each_key (write ∷ list) all =
      All-cons (Contains (keys_of edits)) write.key (write_keys list) (key_inside edits (edit_of write) (All-head (Contains edits) (edit_of write) (edits_of list) all)) (each_key list (All-tail (Contains edits) (edit_of write) (edits_of list) all))

  judged_edits : (found : Option Refusal) → IsJudged (IsObstacle (state_of changes held) session (Some s) (is_one_of present)) (write_keys list) found → IsJudged (IsObstacle (state_of changes held) session (Some s) test) (keys_of edits) found
  judged_edits =
      let a = are in
      judged_over (state_of changes held) session (Some s) (is_one_of present) test (write_keys list) (keys_of edits)
      (λ key c. ap (λ keys. is_one_of keys key) a.twice ∙ kept_is test (write_keys list) key c)
      (All-map (Contains (write_keys list)) (λ (edit : Edit). edit.0) edits a.every) (each_key list a.each)

  seen_is : seen_by w.begun ≡ seen changes (txn_as txn)
  seen_is = let h = w.holds in begun_seen (state_of changes held) session w.begun h.own sees ∙ ap (seen_in changes) (ap txn_in has)

  snapshot_at : txn.snapshot ≡ Some s
  snapshot_at = sym (ap snapshot_of has) ∙ snap

  pub defined : writes begin.schema (seen changes (txn_as txn)) half.bound ≡ Ok edits
  defined =
      let g = w.gives in
      let h = w.holds in
      sym ((λ i. writes (h.schema i) (seen_is i) (w.bound i))) ∙ g.defined

  -- the reply to a write that is judged
  replies : (r : Reply) (found : Option Refusal) → IsJudged (IsObstacle (state_of changes held) session (Some s) (is_one_of present)) (write_keys list) found
      → (((o : Option Refusal) → o ≡ found → IsJudged (IsObstacle (state_of changes held) session txn.snapshot (is_present half.bound edits (seen changes (txn_as txn)))) (keys_of edits) o) → IsWritten (IsJudged (IsObstacle (state_of changes held) session txn.snapshot (is_present half.bound edits (seen changes (txn_as txn)))) (keys_of edits)) edits r)
      → IsReply begin.schema (state_of changes held) session half r
  replies r found judged say =
      let moved : IsJudged (IsObstacle (state_of changes held) session txn.snapshot (is_present half.bound edits (seen changes (txn_as txn)))) (keys_of edits) found =
      subst (λ (x : Option ℕ). IsJudged (IsObstacle (state_of changes held) session x (is_present half.bound edits (seen changes (txn_as txn)))) (keys_of edits) found) (sym snapshot_at)
      (subst (λ (t : Table). IsJudged (IsObstacle (state_of changes held) session (Some s) (is_present half.bound edits t)) (keys_of edits) found) seen_is
      (subst (λ (x : Bound). IsJudged (IsObstacle (state_of changes held) session (Some s) (is_present x edits (seen_by w.begun))) (keys_of edits) found) w.bound (judged_edits found judged))) in
      let said = say (λ o e. subst (λ x. IsJudged (IsObstacle (state_of changes held) session txn.snapshot (is_present half.bound edits (seen changes (txn_as txn)))) (keys_of edits) x) (sym e) moved) in
      write_reply begin.schema (state_of changes held) session half.note half.bound r w.writes
      (subst (λ o. IsWriteReply begin.schema (state_of changes held) session o half.bound r) (sym (ap txn_in has))
      (subst (λ x. IsWriteReplyOf (state_of changes held) session txn.snapshot (seen changes (txn_as txn)) half.bound x r) (sym defined) said))

  pub refused_reply : (refusal : Refusal) → IsJudged (IsObstacle (state_of changes held) session (Some s) (is_one_of present)) (write_keys list) (Some refusal) → IsReply begin.schema (state_of changes held) session half (reply.Refused refusal)
  refused_reply refusal judged = replies (reply.Refused refusal) (Some refusal) judged (λ at. at (Some refusal) refl)

  -- what is found by these keys
  pub judged_as : (keys found_twice : List Key) (found o : Option Refusal) → keys ≡ write_keys list → found_twice ≡ present → found ≡ o
      → IsJudged (IsObstacle (state_of changes held) session (Some s) (is_one_of found_twice)) keys found → IsJudged (IsObstacle (state_of changes held) session (Some s) (is_one_of present)) (write_keys list) o
  judged_as keys found_twice found o same twice is h =
      subst (λ x. IsJudged (IsObstacle (state_of changes held) session (Some s) (is_one_of present)) (write_keys list) x) is
      (subst (λ ks. IsJudged (IsObstacle (state_of changes held) session (Some s) (is_one_of present)) ks found) same
      (subst (λ ps. IsJudged (IsObstacle (state_of changes held) session (Some s) (is_one_of ps)) keys found) twice h))

  -- ---- a write without an obstacle

  module _ (clear : IsJudged (IsObstacle (state_of changes held) session (Some s) (is_one_of present)) (write_keys list) None) where
    pub affected_reply : IsReply begin.schema (state_of changes held) session half (reply.Affected affected)
    affected_reply = let a = are in replies (reply.Affected affected) None clear (λ at. (at None refl, a.count))

    clear_edits : All (λ key. IsObstacle (state_of changes held) session (Some s) test key None) (keys_of edits)
    clear_edits = judged_edits None clear

    apart : Apart edits
    apart = let g = w.gives in let x = w.begun in writes_apart x.schema (map (λ (change : Change). change.edit) x.changes) x.own edits x.bound g.defined (λ k d lt. (clear_edits k d lt).2)

    -- no key is present
    pub none_present : present ≡ []
    none_present = let a = are in a.twice ∙ none_kept test (write_keys list) absent
      where
        absent : All (λ key. test key ≡ false) (write_keys list)
        absent k d lt = sym (kept_is test (write_keys list) (get_or (write_keys list) k d) (k, lt, get_or_default (write_keys list) k (get_or (write_keys list) k d) d lt)) ∙ ap (λ keys. is_one_of keys (get_or (write_keys list) k d)) (sym (let a = are in a.twice)) ∙ (clear k d lt).2

    clear_writes : All (λ (write : Write). IsObstacle (state_of changes held) session (Some s) (is_one_of present) write.key None) list
    clear_writes = all_from_map (λ key. IsObstacle (state_of changes held) session (Some s) (is_one_of present) key None) (λ (write : Write). write.key) list clear

    pub may_stage : MayStage (txn_of held.directory.txns) changes session s list
    may_stage =
        let a = are in
        record {
          snapshot = snap;
          free = λ k d lt other ne own. differ (txn_in (txn_of held.directory.txns other)) (get_or list k d).key (owns_is (txn_of held.directory.txns other) (get_or list k d).key own) ((clear_writes k d lt).0 other ne);
          quiet = λ k d lt. (clear_writes k d lt).1;
          replaces = λ k d lt. a.replaces k d lt ∙ ap (λ (t : Table). has_row t (get_or list k d).key) (snapshot_is (state_of changes held) session w.begun sees);
        }
      where
        differ : (o : Option Txn) (key : Key) → owns o key ≡ true → owns o key ≡ false → ⊥
        differ o key t f = cc (t, f)

    own_up : T (is_sorted key_cmp (edits_of txn.own))
    own_up = sorted_from (edits_of txn.own) (subst IsByKey (ap txn_in has) w.by_key)

    list_up : T (is_sorted key_cmp (edits_of list))
    list_up = let a = are in sorted_from (edits_of list) (sorted_keys list a.order)

    -- the own writes afterwards
    pub staged_is : edits_of (staged txn.own list) ≡ model.staged (edits_of txn.own) edits
    staged_is =
        let a = are in
        staged_edits txn.own list
        ∙ staged_same (edits_of txn.own) (edits_of list) edits own_up list_up apart a.each (subst (λ keys. All (λ (edit : Edit). Contains keys edit.0) edits) (sym (keys_are list)) a.every)

    abbrev pub now : Txn
    now = record (txn_as txn) { own = model.staged (edits_of txn.own) edits }

    -- the state once they are staged
    pub staged_state : (x : State) → x ≡ txn_set (state_of changes held) session (txn_in (widened list (txn_of held.directory.txns session))) → x ≡ txn_set (state_of changes held) session (Some now)
    staged_state x e =
        e ∙ ap (λ o. txn_set (state_of changes held) session (txn_in (widened list o))) has
        ∙ ap (λ (own : List Edit). txn_set (state_of changes held) session (Some (record (txn_as txn) { own = own }))) staged_is

    -- and what the write leaves
    accepted_is : accepted begin.schema (state_of changes held) session half.bound ≡ settled (state_of changes held) session now
    accepted_is =
        write_accepted begin.schema (state_of changes held) session half.bound w.writes
        ∙ ap (λ o. wrote (state_of changes held) session o (writes_in begin.schema changes o half.bound)) (ap txn_in has)
        ∙ ap (λ es. settled (state_of changes held) session (record (txn_as txn) { own = model.staged (edits_of txn.own) es })) (ap edits_in defined)

    pub accepted_explicit : (txn.depth == 0) ≡ false → txn_set (state_of changes held) session (Some now) ≡ accepted begin.schema (state_of changes held) session half.bound
    accepted_explicit e = sym (accepted_is ∙ ap (λ t. cond t (commits (state_of changes held) session now) (txn_set (state_of changes held) session (Some now))) e)

    pub accepted_implicit : (txn.depth == 0) ≡ true → commits (state_of changes held) session now ≡ accepted begin.schema (state_of changes held) session half.bound
    accepted_implicit e = sym (accepted_is ∙ ap (λ t. cond t (commits (state_of changes held) session now) (txn_set (state_of changes held) session (Some now))) e)

    implicit_is : (let g = w.begun in g.implicit) ≡ (txn.depth == 0)
    implicit_is = let h = w.holds in h.implicit ∙ ap is_implicit (ap txn_in has)

    -- ---- whether it commits

    explicit_of : IsParcelled (sizes_of held.directory) w.begun list present None → (txn.depth == 0) ≡ false
    explicit_of h = by (txn.depth == 0) refl
      where
        by : (t : Bool) → (txn.depth == 0) ≡ t → t ≡ false
        by true e = absurd (h (implicit_is ∙ e) none_present)
        by false e = refl

    pub depth_explicit : parcel ≡ None → (txn.depth == 0) ≡ false
    depth_explicit e = let a = are in explicit_of (subst (IsParcelled (sizes_of held.directory) w.begun list present) e a.parcelled)

    parcelled : (p : Parcel) → parcel ≡ Some p → IsParcelled (sizes_of held.directory) w.begun list present (Some p)
    parcelled p e = let a = are in subst (IsParcelled (sizes_of held.directory) w.begun list present) e a.parcelled

    pub depth_implicit : (p : Parcel) → parcel ≡ Some p → (txn.depth == 0) ≡ true
    depth_implicit p e = sym implicit_is ∙ (parcelled p e).0

    -- an implicit transaction has the statement's writes alone
    now_alone : (txn.depth == 0) ≡ true → edits_of (staged txn.own list) ≡ edits_of list
    now_alone d =
        let bare : edits_of txn.own ≡ [] = subst IsBare (ap txn_in has) w.bare d in
        staged_edits txn.own list ∙ ap (λ (own : List Edit). model.staged own (edits_of list)) bare ∙ staged_none (edits_of list) list_up

    pub parcel_for : (p : Parcel) → parcel ≡ Some p → (mid : CoreState) → IsSame held mid → own_of (txn_of mid.directory.txns session) ≡ staged txn.own list
        → IsParcelFor mid.directory (own_of (txn_of mid.directory.txns session)) p
    parcel_for p e mid same own =
        let h = w.holds in
        let table : w.begun.schema ≡ mid.directory.schema.value = h.schema ∙ sym w.schema ∙ sym (ap (λ (schema : Arc Schema Global). schema.value) same.schema) in
        let edits_are : edits_of list ≡ edits_of (own_of (txn_of mid.directory.txns session)) = sym (now_alone (depth_implicit p e)) ∙ ap edits_of (sym own) in
        subst (λ (schema : Schema). parcels.IsParcelFor schema (sizes_of mid.directory) (edits_of (own_of (txn_of mid.directory.txns session))) p) table
        (subst (λ (sizes : Sizes). parcels.IsParcelFor w.begun.schema sizes (edits_of (own_of (txn_of mid.directory.txns session))) p) (sym (sizes_same held mid same))
        (subst (λ es. parcels.IsParcelFor w.begun.schema (sizes_of held.directory) es p) edits_are (parcelled p e).2))

    -- ---- how it ends

    affected_shows : (r : Reply) → r ≡ reply.Affected affected → ShowsBook begin.schema changes (groups_of held) r
    affected_shows r e = subst (ShowsBook begin.schema changes (groups_of held)) (sym e) tt

    affected_said : (r : Reply) → r ≡ reply.Affected affected → IsReply begin.schema (state_of changes held) session half r
    affected_said r e = subst (IsReply begin.schema (state_of changes held) session half) (sym e) affected_reply

    accepts : (r : Reply) → r ≡ reply.Affected affected → accepted begin.schema (state_of changes held) session half.bound ≡ replied begin.schema (state_of changes held) session half.bound r
    accepts r e = ap (replied begin.schema (state_of changes held) session half.bound) (sym e)

    pub ends_explicit : (mid : CoreState) (r : Reply) → IsSame held mid → Stands mid.directory changes → state_of changes mid ≡ txn_set (state_of changes held) session (Some now) → r ≡ reply.Affected affected → (txn.depth == 0) ≡ false
        → Ends begin.schema changes held session half r mid
    ends_explicit mid r same j state e d =
        ends_settled begin.schema changes held mid session half r j same w.found (λ k. affected_shows r e) (record { reply = inr (affected_said r e); state = state ∙ accepted_explicit d ∙ accepts r e })

    module _ (new : CoreState) (r : Reply) (d : (txn.depth == 0) ≡ true) where
      -- what would be committed
      committed_own : is_empty now.own ≡ false → (m.clock < (accepted begin.schema (state_of changes held) session half.bound).clock) × (committed_edits (state_of changes held) (accepted begin.schema (state_of changes held) session half.bound) ≡ now.own)
      committed_own some =
          let after : State = record (gone (state_of changes held) session) { changes = changes ++ committed (held.directory.clock + 1) now; clock = held.directory.clock + 1 } in
          let is : after ≡ accepted begin.schema (state_of changes held) session half.bound =
          sym (ap (λ t. cond t (gone (state_of changes held) session) after) some) ∙ accepted_implicit d in (
            subst (λ (x : State). held.directory.clock < x.clock) is (omega arith),
            subst (λ (x : State). committed_edits (state_of changes held) x ≡ now.own) is (added changes (held.directory.clock + 1) txn.number now.own),
          )

      -- its commit is made
      pub ends_made : r ≡ reply.Affected affected → Leaves changes held new (commits (state_of changes held) session now) → Ends begin.schema changes held session half r new
      ends_made e leaves = record {
        said = said_plain begin.schema (sizes_of held.directory) (state_of changes held) (groups_of held) session half r (inr (w.found, affected_said r e)) (λ k. affected_shows r e);
        leaves = subst (Leaves changes held new) (accepted_implicit d ∙ accepts r e) leaves;
      }

      -- it would draw a group id above 2^62
      pub ends_past : r ≡ reply.Refused (Reading 50001 1) → Stands new.directory changes → IsSame held new → state_of changes new ≡ refused (state_of changes held) session (Reading 50001 1) → is_empty now.own ≡ false
          → draws_past (groups_of held) (book_with (sizes_of held.directory) (state_of changes held) now.own (groups_of held)) ≡ true → Ends begin.schema changes held session half r new
      ends_past e j same state some past =
          let own' = committed_own some in
          record {
            said = said_full begin.schema (sizes_of held.directory) (state_of changes held) (groups_of held) session half r (reply.Affected affected) now.own e w.found affected_reply own'.0 own'.1 past;
            leaves = same_leaves changes held new (replied begin.schema (state_of changes held) session half.bound r) j same (state ∙ ap (replied begin.schema (state_of changes held) session half.bound) (sym e));
          }

    module _ (mid new : CoreState) (r : Reply) (same : IsSame held mid) (j : Stands mid.directory changes) (state : state_of changes mid ≡ txn_set (state_of changes held) session (Some now))
        (own : own_of (txn_of mid.directory.txns session) ≡ staged txn.own list) (d : (txn.depth == 0) ≡ true) where
      committed_is : committed_in (state_of changes mid) session ≡ commits (state_of changes held) session now
      committed_is =
          ap (λ (x : State). committed_in x session) state
          ∙ ap (commits_txn (txn_set (state_of changes held) session (Some now)) session) (with_own (state_of changes held).txns session (Some now))
          ∙ commits_over (state_of changes held) session (Some now) now

      refused_is : (refusal : Refusal) → refused (state_of changes mid) session refusal ≡ refused (state_of changes held) session refusal
      refused_is refusal =
          ap (λ (x : State). refused x session refusal) state
          ∙ refused_implicit (txn_set (state_of changes held) session (Some now)) session now refusal (with_own (state_of changes held).txns session (Some now)) d
          ∙ txn_twice (state_of changes held) session (Some now) None
          ∙ sym (refused_implicit (state_of changes held) session (txn_as txn) refusal (ap txn_in has) d)

      own_edits : edits_of (own_of (txn_of mid.directory.txns session)) ≡ now.own
      own_edits = ap edits_of own ∙ staged_is

      past_over : IsPast changes mid session → draws_past (groups_of held) (book_with (sizes_of held.directory) (state_of changes held) now.own (groups_of held)) ≡ true
      past_over past =
          subst (λ (sizes : Sizes). draws_past (groups_of held) (after_commit sizes (held.directory.clock + 1) (replaced_by changes held.directory.clock now.own) (inserted_by now.own) (groups_of held)) ≡ true) (sizes_same held mid same)
          (subst (λ (n : ℕ). draws_past (groups_of held) (after_commit (sizes_of mid.directory) (n + 1) (replaced_by changes n now.own) (inserted_by now.own) (groups_of held)) ≡ true) same.clock
          (subst (λ (book : Book). draws_past book (after_commit (sizes_of mid.directory) (mid.directory.clock + 1) (replaced_by changes mid.directory.clock now.own) (inserted_by now.own) book) ≡ true) same.groups
          (subst (λ (es : List Edit). draws_past (groups_of mid) (after_commit (sizes_of mid.directory) (mid.directory.clock + 1) (replaced_by changes mid.directory.clock es) (inserted_by es) (groups_of mid)) ≡ true) own_edits past.past)))

      pub ends_implicit : CommitGives changes mid session (reply.Affected affected) r new → Ends begin.schema changes held session half r new
      ends_implicit (inl c) = ends_made new r d c.reply (leaves_over changes held mid new (commits (state_of changes held) session now) same (subst (Leaves changes mid new) committed_is c.leaves))
      ends_implicit (inr (inl f)) = let still = f.still in
          ends_short begin.schema changes held new session half r (still.stands changes j) (same_then held mid new same still.same) f.reply (f.state ∙ refused_is Memory)
      ends_implicit (inr (inr f)) =
          let gives = f.0 in
          let still = gives.still in
          let past = f.1 in
          ends_past new r d gives.reply (still.stands changes j) (same_then held mid new same still.same) (gives.state ∙ refused_is (Reading 50001 1))
          (ap is_empty (sym own_edits) ∙ some_edits (own_of (txn_of mid.directory.txns session)) past.some) (past_over past)

    -- ---- the writes are loaded

    -- the own writes are then those of the statement
    own_list : (txn.depth == 0) ≡ true → edits_of list ≡ now.own
    own_list d = sym (now_alone d) ∙ staged_is

    pub loads_bare : (p : Parcel) → parcel ≡ Some p → own_of (txn_of held.directory.txns session) ≡ []
    loads_bare p e =
        let bare : edits_of txn.own ≡ [] = subst IsBare (ap txn_in has) w.bare (depth_implicit p e) in
        ap own_of has ∙ none_edits txn.own bare

    module _ (keys : List Key) (loaded : AreLoaded keys list) (p : Parcel) (e : parcel ≡ Some p) where
      pub commit_of : IsCommitOf held.directory changes session keys [] p list
      commit_of =
          let a = are in
          let j = w.stands in
          let agree = j.txns in
          record {
            order = a.order;
            keys = loaded.keys;
            replaced = sym (none_replaced list loaded.fresh);
            may = staged_commits (txn_of held.directory.txns) changes held.directory.clock session s list j.numbered agree may_stage;
            parcel = subst (λ (schema : Schema). parcels.IsParcelFor schema (sizes_of held.directory) (edits_of list) p) (let h = w.holds in h.schema ∙ sym w.schema) (parcelled p e).2;
          }

      module _ (new : CoreState) (r : Reply) where
        -- the load is made
        pub ends_loaded : r ≡ reply.Affected affected → ((txn : kept.Txn) → txn_of held.directory.txns session ≡ Some txn → Leaves changes held new (commits (state_of changes held) session (txn_as (record txn { own = list }))))
            → Ends begin.schema changes held session half r new
        ends_loaded said leaves =
            let d = depth_implicit p e in
            ends_made new r d said
            (subst (λ (own : List Edit). Leaves changes held new (commits (state_of changes held) session (record (txn_as txn) { own = own }))) (own_list d) (leaves txn has))

        -- it is refused
        pub ends_unloaded : (refusal : CommitRefusal) → Stands new.directory changes → IsSame held new → r ≡ reply.Refused (refusal_of refusal) → state_of changes new ≡ refused (state_of changes held) session (refusal_of refusal)
            → (refusal ≡ cause.Full → (list ≢ []) × (draws_past (groups_of held) (book_with (sizes_of held.directory) (state_of changes held) (edits_of list) (groups_of held)) ≡ true))
            → Ends begin.schema changes held session half r new
        ends_unloaded cause.Memory j same said state full = ends_short begin.schema changes held new session half r j same said state
        ends_unloaded cause.Full j same said state full =
            let d = depth_implicit p e in
            let past = full refl in
            ends_past new r d said j same state (ap is_empty (sym (own_list d)) ∙ some_edits list past.0)
            (subst (λ (own : List Edit). draws_past (groups_of held) (book_with (sizes_of held.directory) (state_of changes held) own (groups_of held)) ≡ true) (own_list d) past.1)
