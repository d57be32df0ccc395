-- What a directory stands for: a list of committed changes.
use Rattle.std.specs.Prelude.{◌≡◌, ◌≢◌, ℕ, ◌<◌, ◌≤◌, List, [], length, All, Option, None, Some, IfSome, false}
use Rattle.std.specs.List.{flat_map}
use Rattle.std.specs.Option.{option_map}
use Rattle.std.specs.FinMap as map
use Rattle.cs_types.specs.declared.Key.{Key}
use Rattle.cs_types.specs.declared.Schema.{Schema}
use Rattle.cs_model.specs.declared.work.Actor.{Actor}
use Rattle.cs_model.specs.Changes.{Change, newest}
use Rattle.cs_model.specs.Floors.{IsFloor}
use Rattle.cs_model.specs.Obstacles.{is_above}
use Rattle.write_set.specs.declared.write.Write.{Write}
use Rattle.txn_table.specs.declared.txn.Txn.{Txn}
use Rattle.txn_table.specs.Txns.{txn_of, snapshot_of, own_of, snapshots_in, Owns}
use Rattle.version_store.specs.declared.NewestChange.{NewestChange}
use Rattle.version_store.specs.Newest as newest_changes
use Rattle.group_book.specs.Book.{Version, Ending}
use Rattle.group_book.specs.Book.Choice.{Flush}
use Rattle.group_book.specs.Commits.{is_in_table}
use Rattle.group_book.specs.Turns.{buffered_end}
use Rattle.group_book.specs.Stocks.{AreChanges, next_change}
use Rattle.group_book.specs.Invariant.{IsBookOf}
use Rattle.group_view.specs.declared.claim.Claim.{Claim}
use Rattle.group_view.specs.declared.groups.GroupList.{GroupList}
use Rattle.group_view.specs.Parts.{Rowed, packed_parts, ArePacked}
use Rattle.group_view.specs.Views.{endings_of, buffer_of, rowed_of}
use Rattle.group_view.specs.Books.{versions_of, choice_of, book_of, StandsAsLent}
use Rattle.group_view.specs.Claims.{lent_entries}
use Rattle.group_view.specs.Lists.{listed, packed_in, IsHeld}
use Rattle.group_view.specs.Laws.{IsMadeRow}
use Rattle.group_directory.specs.declared.directory.Directory.{Directory}
use Rattle.group_directory.specs.declared.directory.Sizes.{Sizes}

-- ---- rows

-- the cells of a row
abbrev pub width_in : Directory → ℕ
width_in directory = length directory.schema.value.columns

-- the versions of groups, and those of the groups that a view shows
abbrev pub rows_in : List (ℕ × List Rowed) → List Rowed
rows_in groups = flat_map (λ (group : ℕ × List Rowed). group.1) groups

abbrev pub listed_rows : GroupList → List Rowed
listed_rows list = rows_in (listed list.groups.items)

-- where the buffer ends the version, that is the version's next change
abbrev pub IsEndedBy : List Change → List Ending → Version → Type 0
IsEndedBy changes buffer version = IfSome (buffered_end buffer version) (λ e. next_change changes version.key version.begin ≡ Some e)

-- what a claim of a table keeps: the table's schema; versions with the rows of their changes, which its buffer ends where these
-- change next, whatever came later; packed groups of the table; and of a flush the entries that end the versions
pub record IsLoanOf (schema : Schema) (changes : List Change) (held : Actor × Claim) : Type 0 where
  pub of_table : held.1.schema.value ≡ schema
  pub rows : All (IsMadeRow (length schema.columns) changes) (rowed_of held.1.view)
  pub ends : All (IsEndedBy changes (buffer_of held.1.view)) (versions_of (rowed_of held.1.view))
  pub packed : ArePacked schema (packed_parts held.1.view.groups)
  pub entries : choice_of held.1.choice ≡ Flush → endings_of held.1.entries ≡ lent_entries held.1

-- ---- newest changes

abbrev pub note_of : Change → NewestChange
note_of change = record { commit = change.commit; txn = change.txn }

-- what is noted of a key is its newest change, and each newest change above the number is noted
pub record IsRecent (pruned : ℕ) (noted : newest_changes.Changes) (changes : List Change) : Type 0 where
  pub known : (key : Key) (note : NewestChange) → map.get noted key ≡ Some note → option_map note_of (newest key changes) ≡ Some note
  pub above : (key : Key) (change : Change) → newest key changes ≡ Some change → pruned < change.commit → map.get noted key ≡ Some (note_of change)

-- ---- open transactions

-- each own write says whether its key has a row in the table at the clock
abbrev pub SayReplaced : List Change → ℕ → Option Txn → Type 0
SayReplaced changes clock txn = All (λ (write : Write). write.replaces ≡ is_in_table changes clock write.key) (own_of txn)

-- the keys of own writes have no change above the transaction's snapshot
abbrev pub AreUnchanged : List Change → Option Txn → Type 0
AreUnchanged changes txn = All (λ (write : Write). is_above (newest write.key changes) (snapshot_of txn) ≡ false) (own_of txn)

-- snapshots are at most the clock; no two open transactions own one key; own writes say what they replace; and who has written has
-- a snapshot, above which its keys have no change
pub record AreTxns (txns : ℕ → Option Txn) (changes : List Change) (clock : ℕ) : Type 0 where
  pub snapshots : (session s : ℕ) → snapshots_in txns session ≡ Some s → s ≤ clock
  pub owners : (a b : ℕ) (key : Key) → a ≢ b → Owns (txns a) key → Owns (txns b) key → ⊥
  pub replaced : (session : ℕ) → SayReplaced changes clock (txns session)
  pub pinned : (session : ℕ) → snapshots_in txns session ≡ None → own_of (txns session) ≡ []
  pub unchanged : (session : ℕ) → AreUnchanged changes (txns session)

-- ---- the directory

-- a group has at most 2 to 1,048,576 versions, and from 1 to 1,048,576 rows on a commit loads them directly
pub record AreSizes (sizes : Sizes) : Type 0 where
  pub least_group : 2 ≤ sizes.group_rows
  pub most_group : sizes.group_rows ≤ 1048576
  pub least_direct : 1 ≤ sizes.direct_rows
  pub most_direct : sizes.direct_rows ≤ 1048576

-- the directory stands for the changes: its book is one of these changes at the floor; its groups have the rows that the changes
-- wrote; its COMPRESSED groups are packed ones of the table; what it keeps of open transactions, of newest changes and of claims agrees
-- with the changes; and the groups of claims stand as they were lent
pub record Stands (directory : Directory) (changes : List Change) : Type 0 where
  pub sizes : AreSizes directory.sizes
  pub held : IsHeld directory.list
  pub numbered : AreChanges changes directory.clock
  pub floor : ℕ
  pub is_floor : IsFloor (snapshots_in (txn_of directory.txns)) directory.clock floor
  pub book : IsBookOf directory.sizes.group_rows (book_of directory.list) changes floor
  pub rows : All (IsMadeRow (width_in directory) changes) (listed_rows directory.list)
  pub packed : ArePacked directory.schema.value (packed_in directory.list.groups.items)
  pub loans : All (IsLoanOf directory.schema.value changes) directory.list.claims.items
  pub lent : All (StandsAsLent (book_of directory.list)) directory.list.claims.items
  pub recent : IsRecent directory.pruned directory.recent.changes changes
  pub pruned : directory.pruned ≤ floor
  pub txns : AreTxns (txn_of directory.txns) changes directory.clock
