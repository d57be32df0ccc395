-- What the laws of a directory ask for and give.
use Rattle.std.specs.Prelude.{◌≡◌, ◌≢◌, ℕ, ◌≤◌, List, [], map, length, All, Contains, Option, None, Some, false}
use Rattle.std.specs.FinMap as finite
use Rattle.cs_types.specs.declared.Key.{Key}
use Rattle.cs_types.specs.declared.Value.{Value}
use Rattle.cs_model.specs.Changes.{Change, table, newest}
use Rattle.cs_model.specs.Floors.{IsFloor}
use Rattle.cs_model.specs.Obstacles.{has_row, is_above}
use Rattle.write_set.specs.declared.write.Write.{Write}
use Rattle.txn_table.specs.declared.txn.Txn.{Txn}
use Rattle.txn_table.specs.Txns.{txn_of, snapshots_in, Owns}
pub use Rattle.version_store.specs.Newest.{noted_by}
use Rattle.group_book.specs.Book.{empty}
use Rattle.group_book.specs.Commits.{Sizes, is_in_table}
use Rattle.group_view.specs.declared.claim.Claim.{Claim}
use Rattle.group_view.specs.declared.groups.GroupList.{GroupList}
use Rattle.group_view.specs.declared.parts.GroupPart.{GroupPart}
use Rattle.group_view.specs.declared.view.GroupView.{GroupView}
use Rattle.group_view.specs.Parts.{Rowed, packed_parts, ArePacked, IsFitting}
use Rattle.group_view.specs.Books.{book_of, StandsAsLent}
use Rattle.group_view.specs.Lists.{listed, packed_in, IsHeld}
use Rattle.group_view.specs.Laws.{IsMadeRow}
use Rattle.group_directory.specs.declared.directory.Directory.{Directory}
use Rattle.group_view.specs.Seen.{part_entry, rooted}
use Rattle.group_directory.specs.Stands.{width_in, listed_rows, IsLoanOf, AreSizes}

-- ---- rows

-- the key, the begin and the row of a new version of the number c
abbrev pub rooted_at : ℕ → Key × List Value → Key × ℕ × List Value
rooted_at c entry = (entry.0, c, entry.1)

-- each of the versions is one of the old ones, up to its end
abbrev pub AreAmong : List Rowed → List Rowed → Type 0
AreAmong old rows = All (Contains (map rooted old)) (map rooted rows)

-- the cells of a row, as the claim has them
abbrev pub width_of : Claim → ℕ
width_of claim = length claim.schema.value.columns

abbrev pub BeginsBy : ℕ → Rowed → Type 0
BeginsBy clock rowed = rowed.version.begin ≤ clock

-- ---- open transactions

-- the writes may be laid over the own ones of the session, whose transaction has this snapshot: no other open transaction
-- has one of their keys, which have no change above the snapshot; and each says whether its key is in the snapshot's table
pub record MayStage (txns : ℕ → Option Txn) (changes : List Change) (session s : ℕ) (writes : List Write) : Type 0 where
  pub snapshot : snapshots_in txns session ≡ Some s
  pub free : All (λ (write : Write). (other : ℕ) → other ≢ session → Owns (txns other) write.key → ⊥) writes
  pub quiet : All (λ (write : Write). is_above (newest write.key changes) (Some s) ≡ false) writes
  pub replaces : All (λ (write : Write). write.replaces ≡ has_row (table changes s) write.key) writes

-- what the groups ask of writes that the session commits: no other open transaction has one of their keys, and each says whether its
-- key is in the table at the clock; that no key has a change above the session's snapshot is judged before
pub record MayCommit (txns : ℕ → Option Txn) (changes : List Change) (clock session : ℕ) (writes : List Write) : Type 0 where
  pub free : All (λ (write : Write). (other : ℕ) → other ≢ session → Owns (txns other) write.key → ⊥) writes
  pub replaces : All (λ (write : Write). write.replaces ≡ is_in_table changes clock write.key) writes

-- ---- lists

-- the sizes, as the book has them
abbrev pub sizes_of : Directory → Sizes
sizes_of directory = record { group_rows = directory.sizes.group_rows; direct_rows = directory.sizes.direct_rows }

-- the list of groups may stand in the directory's place for these changes, where its book is one of them at the floor
pub record MayBeList (directory : Directory) (list : GroupList) (changes : List Change) : Type 0 where
  pub held : IsHeld list
  pub rows : All (IsMadeRow (width_in directory) changes) (listed_rows list)
  pub packed : ArePacked directory.schema.value (packed_in list.groups.items)
  pub loans : All (IsLoanOf directory.schema.value changes) list.claims.items
  pub lent : All (StandsAsLent (book_of list)) list.claims.items

-- a new table's directory: no group, no entry, no claim, no transaction and no change
pub record IsNew (directory : Directory) : Type 0 where
  pub sizes : AreSizes directory.sizes
  pub held : IsHeld directory.list
  pub groups : directory.list.groups.items ≡ []
  pub claims : directory.list.claims.items ≡ []
  pub book : book_of directory.list ≡ empty
  pub recent : directory.recent.changes ≡ finite.empty
  pub pruned : directory.pruned ≡ 0
  pub txns : (session : ℕ) → txn_of directory.txns session ≡ None

-- ---- views

-- the view shows the directory's groups with its buffer, from its floor to its clock
pub record IsLookAt (directory : Directory) (view : GroupView) : Type 0 where
  pub groups : map part_entry view.groups ≡ listed directory.list.groups.items
  pub packed : packed_parts view.groups ≡ packed_in directory.list.groups.items
  pub fitting : All (λ (part : ℕ × GroupPart). IsFitting part.1) view.groups
  pub buffer : view.buffer.value ≡ directory.list.buffer.entries
  pub floor : IsFloor (snapshots_in (txn_of directory.txns)) directory.clock view.floor
  pub clock : view.clock ≡ directory.clock
