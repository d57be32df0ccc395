-- What a Start takes for the work of its statement.
use Rattle.std.specs.Prelude.{◌≡◌, ◌≤◌, ℕ, List, Bool, true, false, if◌then◌else◌, Option, None, Some}
use Rattle.cs_model.specs.declared.entry.Bound.{Bound}
use Rattle.cs_model.specs.Changes.{Change, until}
use Rattle.cs_model.specs.Kinds.{is_of_table}
use Rattle.cs_model.specs.State.{State, Begin}
use Rattle.cs_model.specs.Steps.{pinned}
use Rattle.log_laws.specs.Started.{Begun, Starts}
use Rattle.edit_laws.specs.Edits.{edits_of}
use Rattle.txn_table.specs.Txns.{txn_of, own_of, snapshots_in}
use Rattle.group_view.specs.declared.view.Pinned.{Pinned}
use Rattle.group_view.specs.Books.{book_of}
use Rattle.group_view.specs.Views.{IsView, ShowsTables}
use Rattle.group_directory.specs.declared.directory.Directory.{Directory}
use Rattle.group_directory.specs.Stands.{width_in}
use Rattle.statement_core.specs.declared.begin.Taken.{Taken}
use Rattle.statement_core.specs.declared.core_state.CoreState.{CoreState}
use Rattle.statement_core.specs.Begun.{IsPinnedFor}
use Rattle.statement_core.specs.CoreState.{state_of, groups_of}
use Rattle.statement_core.specs.Counted.{HasCounts}
use Rattle.statement_core.specs.Reorganizes.{reorganizes, IsLedgerFor}

-- what is pinned shows the tables of these changes, has the snapshot and the own writes of the session's transaction, and has the
-- counts of the directory's groups
pub record IsPinOf (changes : List Change) (directory : Directory) (session : ℕ) (pinned : Pinned) : Type 0 where
  pub view : IsView pinned.view
  pub shows : ShowsTables (width_in directory) pinned.view changes
  pub from_floor : pinned.view.floor ≤ pinned.snapshot
  pub to_clock : pinned.snapshot ≤ pinned.view.clock
  pub snapshot : snapshots_in (txn_of directory.txns) session ≡ Some pinned.snapshot
  pub taken : pinned.snapshot ≤ directory.clock
  pub own : pinned.own ≡ own_of (txn_of directory.txns session)
  pub counts : HasCounts directory.schema.value changes (book_of directory.list) (Some pinned)

abbrev pub IsPinOrNone : List Change → Directory → ℕ → Option Pinned → Type 0
IsPinOrNone changes directory session None = ⊥
IsPinOrNone changes directory session (Some pinned) = IsPinOf changes directory session pinned

-- the state in which a statement of the table, or another one, is begun
abbrev pub opened_for : State → ℕ → Bound → Bool → State
opened_for m session b short = if is_of_table b then pinned m session short else m

-- what a Start takes is what was begun
pub record IsTaken (begin : Begin) (changes : List Change) (old : CoreState) (session : ℕ) (b : Bound) (taken : Taken) (new : CoreState) : Type 0 where
  pub begun : Begun
  pub bound : begun.bound ≡ b
  pub among : begun.changes ≡ until begun.snapshot changes
  pub starts : Starts begin (state_of changes old) session begun (state_of changes new)
  pub short : taken.short ≡ begun.short
  pub note : taken.note ≡ begun.note
  pub implicit : taken.implicit ≡ begun.implicit
  pub own : edits_of taken.own ≡ begun.own
  pub ledger : IsLedgerFor (groups_of old) (reorganizes b) taken.ledger
  pub pinned : is_of_table begun.bound ≡ true → begun.short ≡ false → IsPinnedFor begun taken.pinned
  pub counts : is_of_table begun.bound ≡ true → begun.short ≡ false → HasCounts begin.schema changes (groups_of old) taken.pinned
