-- What the type of a core keeps, and what its calls ask for.
use Rattle.std.specs.Prelude.{◌≡◌, ℕ, ◌+◌, ◌≤◌, ◌<◌, List, length, All}
use Rattle.cs_types.specs.Schemas.{IsSchema}
use Rattle.cs_model.specs.declared.entry.Entry.{Entry}
use Rattle.cs_model.specs.Actors.{owed}
use Rattle.cs_model.specs.Changes.{Change}
use Rattle.cs_model.specs.State.{Begin}
use Rattle.cs_model.specs.Text.{IsPrintableEntry}
use Rattle.log_laws.specs.Laws.{AreDistinct}
use Rattle.log_laws.specs.Started.{Begun, IsStarted}
use Rattle.group_book.specs.Commits.{Sizes}
use Rattle.group_log.specs.Counted.{IsCounted}
use Rattle.group_log.specs.Followed.{ground_of, Followed}
use Rattle.group_log.specs.Reorganizing.{IsReorganized}
use Rattle.group_directory.specs.Laws.{sizes_of as directory_sizes}
use Rattle.group_directory.specs.Stands.{Stands}
use Rattle.statement_core.specs.declared.core_state.CoreState.{CoreState}
use Rattle.statement_core.specs.declared.started.Outcome.{Outcome}
use Rattle.statement_core.specs.declared.started.Terms.{Terms}
use Rattle.statement_core.specs.CoreState.{state_of, groups_of, claims_of, IsBare}
use Rattle.statement_core.specs.Outcomes.{GivesOn}
use Rattle.statement_core.specs.Reorganizes.{IsOver}
use Rattle.statement_core.specs.Fit.{IsFitState}
use Rattle.statement_core.specs.Terms.{sizes_of, AreTerms}

-- the log is followed, and leads to the state and the book that the fields stand for, with some committed changes; all of it
-- fits the table; answers tell the counts of their Starts' groups; sessions work as their REORGANIZE may, and are told what it
-- leaves; and there is room for every Finish and End that is still owed, and for the install of every claim that is out
pub record IsCore (made : Terms) (held : CoreState) (log : List Entry) (capacity : ℕ) (sessions : List ℕ) : Type 0 where
  pub terms : AreTerms made
  pub table : IsSchema made.schema.value
  pub schema : held.directory.schema.value ≡ made.schema.value
  pub sizes : directory_sizes held.directory ≡ sizes_of made
  pub changes : List Change
  pub stands : Stands held.directory changes
  pub followed : Followed (ground_of made.schema.value (sizes_of made)) log (state_of changes held) (groups_of held)
  pub bare : (session : ℕ) → IsBare ((state_of changes held).txns session)
  pub fit : IsFitState made.schema.value (state_of changes held)
  pub room : length log + owed log sessions + length (claims_of held) ≤ capacity
  pub numbers : All (λ session. session < 65) sessions
  pub few : length sessions ≤ 64
  pub distinct : AreDistinct sessions
  pub printable : All (IsPrintableEntry made.schema.value) log
  pub counted : IsCounted (ground_of made.schema.value (sizes_of made)) log
  pub reorganized : IsReorganized (ground_of made.schema.value (sizes_of made)) log

-- the outcome is what the definitions give on what the session has begun, and ends it
pub record IsDone (begin : Begin) (sizes : Sizes) (log : List Entry) (session : ℕ) (outcome : Outcome) : Type 0 where
  pub begun : Begun
  pub started : IsStarted begin log session begun
  pub gives : GivesOn sizes begun outcome
  pub over : IsOver begun.bound outcome
