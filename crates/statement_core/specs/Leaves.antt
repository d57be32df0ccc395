-- What a Finish's effect leaves of the core.
use Rattle.std.specs.Prelude.{◌≡◌, ℕ, List, Option, None, Some}
use Rattle.cs_model.specs.Changes.{Change}
use Rattle.cs_model.specs.State.{Txn, State}
use Rattle.cs_model.specs.Steps.{commits}
use Rattle.group_log.specs.Followed.{committed_edits, Commits}
use Rattle.group_directory.specs.Laws.{sizes_of}
use Rattle.group_directory.specs.Stands.{Stands}
use Rattle.statement_core.specs.declared.core_state.CoreState.{CoreState}
use Rattle.statement_core.specs.CoreState.{state_of, groups_of, claims_of}

-- the session's transaction is committed, if it has one
abbrev pub commits_txn : State → ℕ → Option Txn → State
commits_txn m session None = m
commits_txn m session (Some txn) = commits m session txn

abbrev pub committed_in : State → ℕ → State
committed_in m session = commits_txn m session (m.txns session)

-- from the changes that it stood for, the core comes to stand for later ones, and with them for the state after; its groups move
-- by the commit of the edits between the two states; and its claims stay
pub record Leaves (changes : List Change) (old new : CoreState) (after : State) : Type 0 where
  pub later : List Change
  pub stands : Stands new.directory later
  pub state : state_of later new ≡ after
  pub commits : Commits (sizes_of old.directory) (state_of changes old) (committed_edits (state_of changes old) after) (groups_of old) (groups_of new)
  pub claims : claims_of new ≡ claims_of old
  pub sizes : new.directory.sizes ≡ old.directory.sizes
  pub schema : new.directory.schema ≡ old.directory.schema
