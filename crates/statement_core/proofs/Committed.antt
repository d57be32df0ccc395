-- What the commit of a session's transaction leaves.
use Rattle.std.proofs.Common.{◌≡◌, ◌≢◌, ℕ, ◌+◌, List, [], ◌∷◌, ◌++◌, map, drop, length, refl, sym, ap, ◌∙◌, subst, cond, Bool, true, false, All, Option, None, Some, Ok, Err}
use Rattle.std.specs.Prelude.{IsSome, unwrap_or}
use Rattle.std.proofs.Math.Seq.{drop-append_seam}
use Rattle.std.proofs.lemmas.List.{append-nil}
use Rattle.std.specs.declared.alloc.Global.{Global}
use Rattle.std.specs.declared.vec.Vec.{Vec}
use Rattle.cs_types.specs.declared.Key.{Key}
use Rattle.cs_model.specs.declared.work.Actor.{Actor}
use Rattle.cs_model.specs.Changes.{Edit, Change}
use Rattle.cs_model.specs.State.{State}
use Rattle.cs_model.specs.Steps.{commits, committed, gone, is_empty, numbered}
use Rattle.edit_laws.specs.Edits.{edits_of}
use Rattle.write_set.specs.declared.write.Write.{Write}
use Rattle.write_set.specs.Writes.{write_keys}
use Rattle.txn_table.specs.declared.txn.Txn as kept
use Rattle.txn_table.specs.Txns.{Table, txn_of, own_of, with as with_txn}
use Rattle.group_book.specs.Book.{Book}
use Rattle.group_book.specs.Commits.{Sizes, replaced_by, inserted_by, after_commit, draws_past}
use Rattle.group_book.specs.Orders.{IsReordered}
use Rattle.group_view.specs.declared.claim.Claim.{Claim}
use Rattle.group_view.specs.declared.claim.Parcel.{Parcel}
use Rattle.group_view.specs.Books.{book_of}
use Rattle.group_log.specs.Followed.{book_with, committed_edits, Commits}
use Rattle.group_directory.specs.declared.directory.Directory.{Directory}
use Rattle.group_directory.specs.declared.committing.CommitRefusal.TheVariants as refusal
use Rattle.group_directory.specs.Calls.{replaced_in, commit_number, IsAsBefore, IsParcelFor}
use Rattle.group_directory.specs.Committing.{after_parcel}
use Rattle.group_directory.specs.Laws.{sizes_of}
use Rattle.group_directory.specs.Obstacles.{txn_as, txn_in, txns_of}
use Rattle.group_directory.specs.Stands.{Stands}
use Rattle.group_directory.proofs.KeyLaws.{replaced_are}
use Rattle.group_directory.proofs.WholeLemmas.{parcel_reordered}
use Rattle.statement_core.specs.declared.core_state.CoreState.{CoreState}
use Rattle.statement_core.specs.CoreState.{settings_of, state_of, groups_of, claims_of, IsStill}
use Rattle.statement_core.specs.Leaves.{commits_txn, Leaves}
use Rattle.statement_core.proofs.States.{same_state, txns_with}
use Rattle.statement_core.proofs.Stills.{commits_none}
use Rattle.std.proofs.lemmas.List.Elements.{recursion_from_All}
use Rattle.group_book.specs.Commits.{is_in_table}

-- the edits that a commit adds
pub added : (changes : List Change) (c txn : ℕ) (own : List Edit) → map (λ (change : Change). change.edit) (drop (length changes) (changes ++ numbered c txn own)) ≡ own
added changes c txn own = ap (map (λ (change : Change). change.edit)) (drop-append_seam changes (numbered c txn own)) ∙ at own
  where
    at : (own : List Edit) → map (λ (change : Change). change.edit) (numbered c txn own) ≡ own
    at [] = refl
    at (edit ∷ own) = ap (λ es. edit ∷ es) (at own)

-- one book draws an id above 2^62 exactly where the other does, up to the order of packed versions
pub past_alike : (book a b : Book) → b.next ≡ a.next → draws_past book a ≡ draws_past book b
past_alike book a b next = ap (λ (n : ℕ). draws_past book (record a { next = n })) (sym next)

-- the writes say whether their keys are in the table at the clock
abbrev SayReplaced : List Change → ℕ → List Write → Type 0
SayReplaced changes clock own = All (λ (write : Write). write.replaces ≡ is_in_table changes clock write.key) own

module _ (changes : List Change) (d : Directory) (j : Stands d changes) (own : List Write) (replaced : List Key) (are : replaced ≡ replaced_in own) (parcel : Parcel) (of : IsParcelFor d own parcel) (says : SayReplaced changes d.clock own) where
  -- the book of the commit of a parcel is that of the commit, up to the order of packed versions
  pub reordered : IsReordered (after_commit (sizes_of d) (d.clock + 1) (replaced_by changes d.clock (edits_of own)) (inserted_by (edits_of own)) (book_of d.list)) (after_parcel d.sizes.group_rows (d.clock + 1) replaced parcel (book_of d.list))
  reordered =
      let same = replaced_are changes d.clock own (recursion_from_All (λ (write : Write). write.replaces ≡ is_in_table changes d.clock write.key) own says) ∙ sym are in
      subst (λ (keys : List Key). IsReordered (after_commit (sizes_of d) (d.clock + 1) keys (inserted_by (edits_of own)) (book_of d.list)) (after_parcel d.sizes.group_rows (d.clock + 1) replaced parcel (book_of d.list))) (sym same)
      (parcel_reordered (sizes_of d) (book_of d.list) changes j.floor (d.clock + 1) replaced (inserted_by (edits_of own)) parcel j.book of.parts)

  pub past_is : draws_past (book_of d.list) (after_commit (sizes_of d) (d.clock + 1) (replaced_by changes d.clock (edits_of own)) (inserted_by (edits_of own)) (book_of d.list)) ≡ draws_past (book_of d.list) (after_parcel d.sizes.group_rows (d.clock + 1) replaced parcel (book_of d.list))
  past_is =
      past_alike (book_of d.list) (after_commit (sizes_of d) (d.clock + 1) (replaced_by changes d.clock (edits_of own)) (inserted_by (edits_of own)) (book_of d.list))
      (after_parcel d.sizes.group_rows (d.clock + 1) replaced parcel (book_of d.list)) reordered.next

pub not_past : {A : Type 0} (x : A) (P : Type 0) (t : Bool) → (Ok x ≡ Err refusal.Full → ⊥) → ((P × (t ≡ true)) → Ok x ≡ Err refusal.Full) → P → t ≡ false
not_past x P true never full s = absurd (never (full (s, refl)))
not_past x P false never full s = refl

commits_some : (sizes : Sizes) (m : State) (own : List Write) (book made : Book) → own ≢ [] → IsReordered (book_with sizes m (edits_of own) book) made → draws_past book made ≡ false → Commits sizes m (edits_of own) book made
commits_some sizes m [] book made some moved past = absurd (some refl)
commits_some sizes m (w ∷ _) book made some moved past = (moved, past)

-- the number of a commit by its keys
pub number_of_keys : (clock : ℕ) (keys : List Key) (own : List Write) → keys ≡ write_keys own → commit_number clock keys ≡ commit_number clock own
number_of_keys clock keys [] are = ap (commit_number clock) are
number_of_keys clock keys (write ∷ own) are = ap (commit_number clock) are

module _ (changes : List Change) (old new : CoreState) (session : ℕ) (number : Option ℕ) (j : Stands old.directory changes) (own : List Write) (replaced : List Key) (are : replaced ≡ replaced_in own) (parcel : Parcel)
    (of : IsParcelFor old.directory own parcel) (says : SayReplaced changes old.directory.clock own)
    (halves : new.halves ≡ old.halves) (settings : new.settings ≡ old.settings)
    (rest : new.directory ≡ record old.directory { list = new.directory.list; txns = new.directory.txns; recent = new.directory.recent; pruned = new.directory.pruned; kept = new.directory.kept; clock = new.directory.clock })
    (clock : new.directory.clock ≡ unwrap_or number old.directory.clock)
    (num : number ≡ commit_number old.directory.clock own)
    (txns : txn_of new.directory.txns ≡ with_txn (txn_of old.directory.txns) session None) (next : new.directory.txns.next ≡ old.directory.txns.next)
    (claims : new.directory.list.claims ≡ old.directory.list.claims)
    (book : (c : ℕ) → number ≡ Some c → book_of new.directory.list ≡ after_parcel old.directory.sizes.group_rows c replaced parcel (book_of old.directory.list))
    (none : own ≡ [] → new.directory ≡ record old.directory { txns = new.directory.txns })
    (past : own ≢ [] → draws_past (book_of old.directory.list) (after_parcel old.directory.sizes.group_rows (old.directory.clock + 1) replaced parcel (book_of old.directory.list)) ≡ false)
    (txn : kept.Txn) (stands : Stands new.directory (changes ++ numbered (old.directory.clock + 1) txn.number (edits_of own))) where
  same_claims : claims_of new ≡ claims_of old
  same_claims = ap (λ (some : Vec (Actor × Claim) Global). some.items) claims

  same_sizes : new.directory.sizes ≡ old.directory.sizes
  same_sizes = ap (λ (d : Directory). d.sizes) rest

  same_schema : new.directory.schema ≡ old.directory.schema
  same_schema = ap (λ (d : Directory). d.schema) rest

  -- the state after a commit of some writes
  abbrev after : State
  after = record (gone (state_of changes old) session) { changes = changes ++ committed (old.directory.clock + 1) (txn_as (record txn { own = own })); clock = old.directory.clock + 1 }

  ends : (t : Bool) → is_empty (edits_of own) ≡ t → commits (state_of changes old) session (txn_as (record txn { own = own })) ≡ cond t (gone (state_of changes old) session) after
  ends t is = ap (λ b. cond b (gone (state_of changes old) session) after) is

  -- without writes the transaction is over, and nothing else
  left_none : own ≡ [] → Leaves changes old new (commits (state_of changes old) session (txn_as (record txn { own = own })))
  left_none empty =
      let only = none empty in
      let later = ap (λ (ws : List Write). changes ++ numbered (old.directory.clock + 1) txn.number (edits_of ws)) empty ∙ append-nil changes in
      subst (Leaves changes old new) (sym (ends true (ap (λ (ws : List Write). is_empty (edits_of ws)) empty))) (record {
        later = changes;
        stands = subst (Stands new.directory) later stands;
        state = same_state (state_of changes new) (gone (state_of changes old) session) refl (ap (λ (d : Directory). d.clock) only) (txns_with (txn_of old.directory.txns) (txn_of new.directory.txns) session None txns)
            (ap (λ h. (state_of changes (record old { halves = h })).half) halves) (ap settings_of settings) next;
        commits = commits_none (sizes_of old.directory) (state_of changes old) changes (groups_of old) (groups_of new) refl (ap (λ (d : Directory). book_of d.list) only);
        claims = same_claims;
        sizes = same_sizes;
        schema = same_schema;
      })

  left_some : own ≢ [] → number ≡ Some (old.directory.clock + 1) → is_empty (edits_of own) ≡ false → Leaves changes old new (commits (state_of changes old) session (txn_as (record txn { own = own })))
  left_some some numbered_at full =
      let done = book (old.directory.clock + 1) numbered_at in
      let edits_are : edits_of own ≡ committed_edits (state_of changes old) after = sym (added changes (old.directory.clock + 1) txn.number (edits_of own)) in
      subst (Leaves changes old new) (sym (ends false full)) (record {
        later = changes ++ numbered (old.directory.clock + 1) txn.number (edits_of own);
        stands = stands;
        state = same_state (state_of (changes ++ numbered (old.directory.clock + 1) txn.number (edits_of own)) new) after refl (clock ∙ ap (λ n. unwrap_or n old.directory.clock) numbered_at)
            (txns_with (txn_of old.directory.txns) (txn_of new.directory.txns) session None txns) (ap (λ h. (state_of changes (record old { halves = h })).half) halves) (ap settings_of settings) next;
        commits = subst (λ edits. Commits (sizes_of old.directory) (state_of changes old) edits (groups_of old) (groups_of new)) edits_are
            (subst (λ b. Commits (sizes_of old.directory) (state_of changes old) (edits_of own) (groups_of old) b) (sym done)
            (commits_some (sizes_of old.directory) (state_of changes old) own (book_of old.directory.list) _ some (reordered changes old.directory j own replaced are parcel of says) (past some)));
        claims = same_claims;
        sizes = same_sizes;
        schema = same_schema;
      })

  left_at : (ws : List Write) → own ≡ ws → Leaves changes old new (commits (state_of changes old) session (txn_as (record txn { own = own })))
  left_at [] is = left_none is
  left_at (w ∷ ws) is = left_some (λ e. absurd (cc (e, sym is))) (num ∙ ap (commit_number old.directory.clock) is) (ap (λ (ws : List Write). is_empty (edits_of ws)) is)

  pub committed_leaves : Leaves changes old new (commits (state_of changes old) session (txn_as (record txn { own = own })))
  committed_leaves = left_at own refl

-- what its own writes leave
pub own_leaves : (changes : List Change) (old new : CoreState) (session : ℕ) (o : Option kept.Txn) → txn_of old.directory.txns session ≡ o → IsSome o
    → ((txn : kept.Txn) → txn_of old.directory.txns session ≡ Some txn → Leaves changes old new (commits (state_of changes old) session (txn_as (record txn { own = own_of (txn_of old.directory.txns session) }))))
    → Leaves changes old new (commits_txn (state_of changes old) session (txn_in o))
own_leaves changes old new session None has there leaves = absurd (cc there)
own_leaves changes old new session (Some txn) has there leaves =
    subst (λ (ws : List Write). Leaves changes old new (commits (state_of changes old) session (txn_as (record txn { own = ws })))) (ap own_of has) (leaves txn has)

-- ---- after a refusal

pub still_refused : (old new : CoreState) → new.directory.list.claims ≡ old.directory.list.claims → ((changes : List Change) → Stands old.directory changes → Stands new.directory changes) → IsAsBefore old.directory new.directory
    → new.directory ≡ record old.directory { list = new.directory.list; txns = new.directory.txns; recent = new.directory.recent; pruned = new.directory.pruned; kept = new.directory.kept; clock = new.directory.clock } → IsStill old new
still_refused old new claims stands same rest = record {
  stands = stands;
  same = record {
    claims = ap (λ (some : Vec (Actor × Claim) Global). some.items) claims;
    groups = same.book;
    sizes = ap (λ (d : Directory). d.sizes) rest;
    schema = ap (λ (d : Directory). d.schema) rest;
    clock = same.clock;
  };
}

pub state_refused : (changes : List Change) (old new : CoreState) → new.halves ≡ old.halves → new.settings ≡ old.settings → IsAsBefore old.directory new.directory → state_of changes new ≡ state_of changes old
state_refused changes old new halves settings same =
    same_state (state_of changes new) (state_of changes old) refl same.clock (ap (λ (t : Table). txns_of t) same.txns) (ap (λ h. (state_of changes (record old { halves = h })).half) halves) (ap settings_of settings) (ap (λ (t : Table). t.next) same.txns)
