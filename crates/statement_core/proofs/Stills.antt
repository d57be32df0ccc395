-- Where what is committed stands as before.
use Rattle.std.proofs.Common.{◌≡◌, ℕ, ◌+◌, List, [], ◌∷◌, map, drop, length, refl, sym, ap, ◌∙◌, subst}
use Rattle.std.proofs.Math.Seq.{drop-length}
use Rattle.cs_model.specs.declared.work.Actor.{Actor}
use Rattle.cs_model.specs.Changes.{Edit, Change}
use Rattle.cs_model.specs.State.{State}
use Rattle.group_book.specs.Book.{Book}
use Rattle.group_book.specs.Commits.{Sizes, replaced_by, inserted_by, after_commit}
use Rattle.group_book.specs.Orders.{IsReordered}
use Rattle.group_view.specs.declared.claim.Claim.{Claim}
use Rattle.group_view.specs.Books.{book_of}
use Rattle.group_log.specs.Followed.{committed_edits, Commits}
use Rattle.group_directory.specs.declared.directory.Directory.{Directory}
use Rattle.group_directory.specs.declared.directory.Sizes as kept
use Rattle.group_directory.specs.Laws.{sizes_of}
use Rattle.group_directory.specs.Stands.{Stands}
use Rattle.statement_core.specs.declared.core_state.CoreState.{CoreState}
use Rattle.statement_core.specs.CoreState.{state_of, groups_of, IsSame, IsStill}
use Rattle.statement_core.specs.Leaves.{Leaves}

-- the claims of a directory
abbrev pub claims_in : Directory → List (Actor × Claim)
claims_in directory = let list = directory.list in list.claims.items

-- the directory has other transactions alone
pub same_from : (old new : CoreState) → new.directory ≡ record old.directory { txns = new.directory.txns } → IsSame old new
same_from old new rest = record {
  claims = ap claims_in rest;
  groups = ap (λ (d : Directory). book_of d.list) rest;
  sizes = ap (λ (d : Directory). d.sizes) rest;
  schema = ap (λ (d : Directory). d.schema) rest;
  clock = ap (λ (d : Directory). d.clock) rest;
}

pub still_from : (old new : CoreState) → ((changes : List Change) → Stands old.directory changes → Stands new.directory changes) → new.directory ≡ record old.directory { txns = new.directory.txns } → IsStill old new
still_from old new stands rest = record { stands = stands; same = same_from old new rest }

-- or it is the same
pub still_same : (old new : CoreState) → new.directory ≡ old.directory → IsStill old new
still_same old new rest = record {
  stands = λ changes j. subst (λ (d : Directory). Stands d changes) (sym rest) j;
  same = record {
    claims = ap claims_in rest;
    groups = ap (λ (d : Directory). book_of d.list) rest;
    sizes = ap (λ (d : Directory). d.sizes) rest;
    schema = ap (λ (d : Directory). d.schema) rest;
    clock = ap (λ (d : Directory). d.clock) rest;
  };
}

pub same_then : (a b c : CoreState) → IsSame a b → IsSame b c → IsSame a c
same_then a b c x y = record {
  claims = y.claims ∙ x.claims;
  groups = y.groups ∙ x.groups;
  sizes = y.sizes ∙ x.sizes;
  schema = y.schema ∙ x.schema;
  clock = y.clock ∙ x.clock;
}

pub still_then : (a b c : CoreState) → IsStill a b → IsStill b c → IsStill a c
still_then a b c x y = record { stands = λ changes j. y.stands changes (x.stands changes j); same = same_then a b c x.same y.same }

-- the sizes as the book has them
abbrev pub sizes_as : kept.Sizes → Sizes
sizes_as sizes = record { group_rows = sizes.group_rows; direct_rows = sizes.direct_rows }

pub sizes_same : (old new : CoreState) → IsSame old new → sizes_of new.directory ≡ sizes_of old.directory
sizes_same old new same = ap sizes_as same.sizes

-- ---- what is left

-- nothing is committed
pub commits_none : (sizes : Sizes) (m : State) (after : List Change) (book made : Book) → after ≡ m.changes → made ≡ book → Commits sizes m (map (λ (change : Change). change.edit) (drop (length m.changes) after)) book made
commits_none sizes m after book made same e =
    let none : map (λ (change : Change). change.edit) (drop (length m.changes) after) ≡ [] =
    ap (λ (cs : List Change). map (λ (change : Change). change.edit) (drop (length m.changes) cs)) same ∙ ap (map (λ (change : Change). change.edit)) (drop-length m.changes) in
    subst (λ edits. Commits sizes m edits book made) (sym none) e

pub same_leaves : (changes : List Change) (old new : CoreState) (after : State) → Stands new.directory changes → IsSame old new → state_of changes new ≡ after → Leaves changes old new after
same_leaves changes old new after j same e = record {
  later = changes;
  stands = j;
  state = e;
  commits = commits_none (sizes_of old.directory) (state_of changes old) after.changes (groups_of old) (groups_of new) (sym (ap (λ (x : State). x.changes) e)) same.groups;
  claims = same.claims;
  sizes = same.sizes;
  schema = same.schema;
}

pub still_leaves : (changes : List Change) (old new : CoreState) (after : State) → Stands old.directory changes → IsStill old new → state_of changes new ≡ after → Leaves changes old new after
still_leaves changes old new after j still e = same_leaves changes old new after (still.stands changes j) still.same e

-- a commit sees of the state its changes and its clock alone
pub commits_alike : (sizes : Sizes) (m n : State) (edits : List Edit) (book made : Book) → m.changes ≡ n.changes → m.clock ≡ n.clock → Commits sizes m edits book made → Commits sizes n edits book made
commits_alike sizes m n [] book made same clock h = h
commits_alike sizes m n (edit ∷ edits) book made same clock h = (
  subst (λ (t : ℕ). IsReordered (after_commit sizes (t + 1) (replaced_by n.changes t (edit ∷ edits)) (inserted_by (edit ∷ edits)) book) made) clock
      (subst (λ (cs : List Change). IsReordered (after_commit sizes (m.clock + 1) (replaced_by cs m.clock (edit ∷ edits)) (inserted_by (edit ∷ edits)) book) made) same h.0),
  h.1,
)

-- after a step that leaves it all
pub leaves_over : (changes : List Change) (old mid new : CoreState) (after : State) → IsSame old mid → Leaves changes mid new after → Leaves changes old new after
leaves_over changes old mid new after same x = record {
  later = x.later;
  stands = x.stands;
  state = x.state;
  commits =
      subst (λ (sizes : Sizes). Commits sizes (state_of changes old) (committed_edits (state_of changes old) after) (groups_of old) (groups_of new)) (sizes_same old mid same)
      (subst (λ book. Commits (sizes_of mid.directory) (state_of changes old) (committed_edits (state_of changes old) after) book (groups_of new)) same.groups
      (commits_alike (sizes_of mid.directory) (state_of changes mid) (state_of changes old) (committed_edits (state_of changes mid) after) (groups_of mid) (groups_of new) refl same.clock x.commits));
  claims = x.claims ∙ same.claims;
  sizes = x.sizes ∙ same.sizes;
  schema = x.schema ∙ same.schema;
}
