-- The Finish of a COMMIT, and of a statement with its outcome.
use Rattle.std.proofs.Common.{◌≡◌, ◌≢◌, ◌<◌, ◌≤◌, ◌+◌, ◌++◌, ℕ, List, [], ◌∷◌, length, refl, sym, ap, subst, ◌∙◌, cond, inl, inr, arith, Bool, true, false, Option, None, Some}
use Rattle.std.specs.Prelude.{IsSome}
use Rattle.cs_types.specs.declared.Key.{Key}
use Rattle.cs_types.specs.declared.Schema.{Schema}
use Rattle.cs_model.specs.declared.entry.Bound.{Bound}
use Rattle.cs_model.specs.declared.entry.Bound.TheVariants as bound
use Rattle.cs_model.specs.declared.entry.Reply.{Reply}
use Rattle.cs_model.specs.declared.entry.Reply.TheVariants as reply
use Rattle.cs_model.specs.Changes.{Table, Change}
use Rattle.cs_model.specs.declared.kind.Kind.TheVariants as kind
use Rattle.cs_model.specs.Kinds.{kind_of, kind_is_of_table, is_of_table, is_write}
use Rattle.cs_model.specs.State.{State, Begin, Half, Txn}
use Rattle.cs_model.specs.Steps.{IsReply, commits, committed, done_in, gone, is_empty, replied, unwound}
use Rattle.cs_model.specs.Text.{IsPrintableReply}
use Rattle.log_laws.specs.Laws.{IsByKey}
use Rattle.log_laws.specs.Started.{half_by, seen_by, Sees}
use Rattle.edit_laws.specs.Edits.{edits_of}
use Rattle.write_set.specs.declared.write.Write.{Write}
use Rattle.txn_table.specs.declared.txn.Txn as kept
use Rattle.txn_table.specs.Txns.{txn_of, depth_of, own_of}
use Rattle.group_log.specs.Followed.{committed_edits}
use Rattle.group_view.specs.declared.claim.Parcel.{Parcel}
use Rattle.group_view.specs.Parcels as parcels
use Rattle.group_directory.specs.declared.directory.Directory.{Directory}
use Rattle.group_directory.specs.Calls.{IsParcelFor}
use Rattle.group_directory.specs.Laws.{sizes_of}
use Rattle.group_directory.specs.Obstacles.{txn_as, txn_in}
use Rattle.group_directory.specs.Stands.{Stands}
use Rattle.statement_core.specs.declared.core_state.CoreState.{CoreState}
use Rattle.statement_core.specs.declared.started.Outcome.{Outcome}
use Rattle.statement_core.specs.declared.started.Outcome.TheVariants as outcome
use Rattle.statement_core.specs.CoreState.{settings_of, state_of, groups_of, IsSame, IsBare}
use Rattle.statement_core.specs.Leaves.{commits_txn, committed_in, Leaves}
use Rattle.statement_core.specs.Outcomes.{needs_none, IsDecided, GivesWrites, GivesOn, told}
use Rattle.statement_core.specs.Reorganizes.{reorganizes}
use Rattle.statement_core.specs.Settled.{wrote_or, Ends, Holds, IsDoneAt, IsReadyAt, IsLoadingAt, IsWritingAt, CommitGives}
use Rattle.statement_core.proofs.Committed.{added}
use Rattle.statement_core.proofs.Decided.{seen_in, begun_seen, begun_pinned, decided_reply, decided_state, told_state}
use Rattle.statement_core.proofs.Ending.{said_plain, said_full, ends_settled, ends_short}
use Rattle.statement_core.proofs.Reorganizes.{is_reorganize, table_other}
use Rattle.statement_core.proofs.States.{own_model, unwound_commits}
use Rattle.statement_core.proofs.Stills.{same_leaves}

-- ---- a statement that is none of the table is never short

pub never_short : (b : Bound) (short : Bool) → (short ≡ true → is_of_table b ≡ true) → is_of_table b ≡ false → short ≡ false
never_short b true why not = absurd (cc (why refl, not))
never_short b false why not = refl

pub none_of_table : (b : Bound) → needs_none b ≡ true → is_of_table b ≡ false
none_of_table bound.Begin e = refl
none_of_table bound.Commit e = absurd (cc e)
none_of_table bound.Rollback e = refl
none_of_table bound.Nothing e = refl
none_of_table (bound.Statistics on) e = refl
none_of_table (bound.Insert plan) e = absurd (cc e)
none_of_table (bound.Update plan) e = absurd (cc e)
none_of_table (bound.Delete condition) e = absurd (cc e)
none_of_table (bound.Select query) e = absurd (cc e)
none_of_table bound.GroupReport e = refl
none_of_table bound.SegmentReport e = refl
none_of_table (bound.Reorganize all) e = refl
none_of_table (bound.Refused refusal) e = refl

-- what is decided is the reply to a statement of the table
pub decided_table : (schema : Schema) (b : Bound) (t : Table) (r : Reply) → IsDecided schema b t r → is_of_table b ≡ true
decided_table schema bound.Begin t r h = absurd h
decided_table schema bound.Commit t r h = absurd h
decided_table schema bound.Rollback t r h = absurd h
decided_table schema bound.Nothing t r h = absurd h
decided_table schema (bound.Statistics on) t r h = absurd h
decided_table schema (bound.Insert plan) t r h = refl
decided_table schema (bound.Update plan) t r h = refl
decided_table schema (bound.Delete condition) t r h = refl
decided_table schema (bound.Select query) t r h = refl
decided_table schema bound.GroupReport t r h = absurd h
decided_table schema bound.SegmentReport t r h = absurd h
decided_table schema (bound.Reorganize all) t r h = absurd h
decided_table schema (bound.Refused refusal) t r h = absurd h

-- ---- a COMMIT

-- what a transaction with own writes commits
commits_own : (m : State) (i : ℕ) (txn : Txn) → is_empty txn.own ≡ false → (m.clock < (commits m i txn).clock) × (committed_edits m (commits m i txn) ≡ txn.own)
commits_own m i txn some =
    let after : State = record (gone m i) { changes = m.changes ++ committed (m.clock + 1) txn; clock = m.clock + 1 } in
    let is : after ≡ commits m i txn = sym (ap (λ t. cond t (gone m i) after) some) in (
      subst (λ (x : State). m.clock < x.clock) is (omega arith),
      subst (λ (x : State). committed_edits m x ≡ txn.own) is (added m.changes (m.clock + 1) txn.number txn.own),
    )

commits_kept : (m : State) (i : ℕ) (o : Option kept.Txn) → own_of o ≢ [] → (m.clock < (commits_txn m i (txn_in o)).clock) × (committed_edits m (commits_txn m i (txn_in o)) ≡ edits_of (own_of o))
commits_kept m i None some = absurd (some refl)
commits_kept m i (Some txn) some = commits_own m i (txn_as txn) (at txn.own some)
  where
    at : (own : List Write) → own ≢ [] → is_empty (edits_of own) ≡ false
    at [] h = absurd (h refl)
    at (write ∷ own) h = refl

module _ (schema : Schema) (changes : List Change) (old new : CoreState) (session : ℕ) (half : Half) (depth : ℕ) (r : Reply) (found : half.short ≡ false) (j : Stands old.directory changes)
    (deep : depth_of (txn_of old.directory.txns session) ≡ Some depth) (low : depth ≤ 1) where
  there : (o : Option kept.Txn) → depth_of o ≡ Some depth → done_in (txn_in o) 3902 ≡ reply.Done
  there None e = absurd (cc e)
  there (Some txn) e = refl

  abbrev commit : Half
  commit = record half { bound = bound.Commit }

  done : IsReply schema (state_of changes old) session commit reply.Done
  done = sym (there (txn_of old.directory.txns session) deep)

  accepts : committed_in (state_of changes old) session ≡ unwound (state_of changes old) session ((state_of changes old).txns session)
  accepts = unwound_commits (state_of changes old) session (txn_of old.directory.txns session) depth deep low

  pub ends_commit : CommitGives changes old session reply.Done r new → Ends schema changes old session commit r new
  ends_commit (inl c) = record {
    said = said_plain schema (sizes_of old.directory) (state_of changes old) (groups_of old) session commit r (inr (found, subst (IsReply schema (state_of changes old) session commit) (sym c.reply) done)) (λ k. absurd (cc k));
    leaves = subst (Leaves changes old new) (accepts ∙ ap (replied schema (state_of changes old) session bound.Commit) (sym c.reply)) c.leaves;
  }
  ends_commit (inr (inl f)) = let still = f.still in ends_short schema changes old new session commit r (still.stands changes j) still.same f.reply f.state
  ends_commit (inr (inr f)) =
      let gives = f.0 in
      let still = gives.still in
      let past = f.1 in
      let own = commits_kept (state_of changes old) session (txn_of old.directory.txns session) past.some in
      record {
        said = said_full schema (sizes_of old.directory) (state_of changes old) (groups_of old) session commit r reply.Done (edits_of (own_of (txn_of old.directory.txns session))) gives.reply found done
            (subst (λ (x : State). old.directory.clock < x.clock) accepts own.0) (subst (λ (x : State). committed_edits (state_of changes old) x ≡ edits_of (own_of (txn_of old.directory.txns session))) accepts own.1) past.past;
        leaves = same_leaves changes old new (replied schema (state_of changes old) session bound.Commit r) (still.stands changes j) still.same
            (gives.state ∙ ap (replied schema (state_of changes old) session bound.Commit) (sym gives.reply));
      }

-- ---- what is known of an outcome

told_prints : (schema : Schema) (on : Bool) (r : Reply) → IsPrintableReply schema r → IsPrintableReply schema (told on r)
told_prints schema on reply.Done p = p
told_prints schema on (reply.Affected count) p = p
told_prints schema on (reply.Rows rows segments) p = p
told_prints schema on (reply.Groups lines buffered) p = p
told_prints schema on (reply.Segments lines) p = p
told_prints schema on (reply.Left groups) p = p
told_prints schema on (reply.Refused refusal) p = p

module _ (begin : Begin) (changes : List Change) (held : CoreState) (session : ℕ) (half : Half) where
  pub needs_none_of : IsDoneAt begin changes held session half outcome.Nothing → needs_none half.bound ≡ true
  needs_none_of d = ap needs_none (sym d.bound) ∙ d.gives

  pub parcel_of_commit : (parcel : Parcel) → IsDoneAt begin changes held session half (outcome.Commit parcel) → IsParcelFor held.directory (own_of (txn_of held.directory.txns session)) parcel
  parcel_of_commit parcel d =
      let holds = d.holds in
      let g = d.gives in
      subst (λ (s : Schema). parcels.IsParcelFor s (sizes_of held.directory) (edits_of (own_of (txn_of held.directory.txns session))) parcel) (holds.schema ∙ sym d.schema)
      (subst (λ es. parcels.IsParcelFor d.begun.schema (sizes_of held.directory) es parcel) (holds.own ∙ own_model (txn_of held.directory.txns session)) g.1)

  pub is_commit : (parcel : Parcel) → IsDoneAt begin changes held session half (outcome.Commit parcel) → half.bound ≡ bound.Commit
  is_commit parcel d = let g = d.gives in sym d.bound ∙ g.0

  pub over_of : IsDoneAt begin changes held session half outcome.Nothing → reorganizes half.bound ≡ None
  over_of d = ap reorganizes (sym d.bound) ∙ d.over

  pub left_of : (groups : _) → IsDoneAt begin changes held session half (outcome.Left groups) → (all : Bool) × (half.bound ≡ bound.Reorganize all)
  left_of groups d = is_reorganize half.bound (subst (λ (x : Bound). IsSome (reorganizes x)) d.bound d.gives)

  -- what was left is told, and nothing else changes
  pub left_ends : (groups : _) (d : IsDoneAt begin changes held session half (outcome.Left groups)) → Ends begin.schema changes held session half (reply.Left groups) held
  left_ends groups d =
      let is = left_of groups d in
      subst (λ (x : Bound). Ends begin.schema changes held session (record half { bound = x }) (reply.Left groups) held) (sym is.1)
      (ends_settled begin.schema changes held held session (record half { bound = bound.Reorganize is.0 }) (reply.Left groups) d.stands (record { claims = refl; groups = refl; sizes = refl; schema = refl; clock = refl })
      (never_short half.bound half.short d.why (ap is_of_table is.1)) (λ k. tt) (record { reply = inr tt; state = refl }))

  pub with_outcome : (o x : Outcome) → o ≡ x → IsDoneAt begin changes held session half o → IsDoneAt begin changes held session half x
  with_outcome o x e d = subst (IsDoneAt begin changes held session half) e d

  -- the reply that the work decided
  module _ (given : Reply) (d : IsDoneAt begin changes held session half (outcome.Answer given)) where
    m : State
    m = state_of changes held

    on_table : is_of_table d.begun.bound ≡ true
    on_table = let g = d.gives in decided_table d.begun.schema d.begun.bound (seen_by d.begun) given g.1

    sees : Sees (state_of changes held) session d.begun
    sees = let holds = d.holds in let g = d.gives in holds.sees on_table g.0

    seen_is : seen_by d.begun ≡ seen_in changes ((state_of changes held).txns session)
    seen_is = let holds = d.holds in begun_seen (state_of changes held) session d.begun holds.own sees

    pub decided : IsDecided begin.schema half.bound (seen_in changes ((state_of changes held).txns session)) given
    decided =
        let holds = d.holds in
        let g = d.gives in
        subst (λ (s : Schema). IsDecided s half.bound (seen_in changes ((state_of changes held).txns session)) given) holds.schema
        (subst (λ (x : Bound). IsDecided d.begun.schema x (seen_in changes ((state_of changes held).txns session)) given) d.bound
        (subst (λ (t : Table). IsDecided d.begun.schema d.begun.bound t given) seen_is g.1))

    pub answer_other : reorganizes half.bound ≡ None
    answer_other = table_other half.bound (ap is_of_table (sym d.bound) ∙ on_table)

    pub found_answer : half.short ≡ false
    found_answer = let g = d.gives in sym d.short_is ∙ g.0

    pub answered_ends : (new : CoreState) → Stands new.directory changes → IsSame held new → state_of changes new ≡ wrote_or (state_of changes held) session [] given
        → Ends begin.schema changes held session half (told (settings_of held.settings session) given) new
    answered_ends new j same state =
        ends_settled begin.schema changes held new session half (told (settings_of held.settings session) given) j same found_answer (λ k. absurd (not_report k decided)) (record {
          reply = inr (decided_reply begin.schema (state_of changes held) session half.note half.bound given (λ t. begun_pinned (state_of changes held) session d.begun sees) decided);
          state = state ∙ decided_state begin.schema (state_of changes held) session half.bound (seen_in changes ((state_of changes held).txns session)) given decided ∙ told_state begin.schema (state_of changes held) session half.bound (settings_of held.settings session) given;
        })
      where
        not_report : kind_of half.bound ≡ kind.Report → IsDecided begin.schema half.bound (seen_in changes ((state_of changes held).txns session)) given → ⊥
        not_report k h = cc (ap kind_is_of_table k, decided_table begin.schema half.bound (seen_in changes ((state_of changes held).txns session)) given h)

    pub answered_prints : IsPrintableReply begin.schema (told (settings_of held.settings session) given)
    answered_prints = let holds = d.holds in let g = d.gives in told_prints begin.schema (settings_of held.settings session) given (subst (λ (s : Schema). IsPrintableReply s given) holds.schema g.2)

  -- the writes that it gave
  abbrev writing : (o : Outcome) (d : IsDoneAt begin changes held session half o) (list : List Write) (present : List Key) (affected : ℕ) (parcel : Option Parcel) → d.begun.short ≡ false → is_write d.begun.bound ≡ true
      → GivesWrites (sizes_of held.directory) d.begun list present affected parcel → IsWritingAt begin changes held session half list present affected parcel
  writing o d list present affected parcel found writes gives = record {
    stands = d.stands;
    schema = d.schema;
    bare = d.bare;
    by_key = d.by_key;
    begun = d.begun;
    bound = d.bound;
    short_is = d.short_is;
    found = sym d.short_is ∙ found;
    writes = ap is_write (sym d.bound) ∙ writes;
    holds = d.holds;
    gives = gives;
  }

  abbrev pub writing_of : (writes : _) (present : _) (affected : ℕ) (parcel : Option Parcel) → IsDoneAt begin changes held session half (outcome.Writes writes present affected parcel)
      → IsWritingAt begin changes held session half writes.items present.items affected parcel
  writing_of writes present affected parcel d = let g = d.gives in writing (outcome.Writes writes present affected parcel) d writes.items present.items affected parcel g.0 g.1 g.2

  -- those that it loads
  abbrev pub loading_of : (keys : _) (parcel : Parcel) → IsDoneAt begin changes held session half (outcome.Load keys parcel) → IsLoadingAt begin changes held session half keys.items parcel
  loading_of keys parcel d =
      let g = d.gives in
      record {
        list = g.2;
        are = g.3;
        is = writing (outcome.Load keys parcel) d g.2 [] (length keys.items) (Some parcel) g.0 g.1 g.4;
      }

-- ---- from the statement that was half done

pub some_half : (a b : Half) → Some a ≡ Some b → a ≡ b
some_half a b e = cc e

pub done_of : (begin : Begin) (changes : List Change) (old mid : CoreState) (session : ℕ) (half : Half) (o : Outcome) → (state_of changes old).half session ≡ Some half → mid.directory ≡ old.directory
    → IsReadyAt begin changes old session o → IsDoneAt begin changes mid session half o
done_of begin changes old mid session half o is rest d =
    let shows = d.shows in
    let same : half_by d.begun ≡ half = some_half (half_by d.begun) half (sym shows.half ∙ is) in
    let holds : Holds begin (state_of changes old) session d.begun = record { schema = shows.schema; implicit = shows.implicit; own = shows.own; sees = shows.sees } in
    record {
      stands = subst (λ (x : Directory). Stands x changes) (sym rest) d.stands;
      schema = ap (λ (x : Directory). x.schema.value) rest ∙ d.schema;
      bare = subst (λ (x : Directory). IsBare (txn_in (txn_of x.txns session))) (sym rest) d.bare;
      by_key = subst (λ (x : Directory). IsByKey (txn_in (txn_of x.txns session))) (sym rest) d.by_key;
      begun = d.begun;
      bound = ap (λ (h : Half). h.bound) same;
      short_is = ap (λ (h : Half). h.short) same;
      note_is = ap (λ (h : Half). h.note) same;
      why = λ e. subst (λ (x : Bound). is_of_table x ≡ true) (ap (λ (h : Half). h.bound) same) (d.why (ap (λ (h : Half). h.short) same ∙ e));
      holds = subst (λ (x : Directory). Holds begin (state_of changes (record mid { directory = x })) session d.begun) (sym rest) (record {
        schema = holds.schema;
        implicit = holds.implicit;
        own = holds.own;
        sees = λ t n. let s = holds.sees t n in record { snapshot = s.snapshot; taken = s.taken; changes = s.changes };
      });
      gives = subst (λ (x : Directory). GivesOn (sizes_of x) d.begun o) (sym rest) d.gives;
      over = d.over;
    }
