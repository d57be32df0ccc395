-- The log of a run of a script, line by line, and its summary.
use Rattle.std.specs.Prelude.{◌≡◌, ◌≤◌, ◌⊎◌, ℕ, List, [], ◌++◌, length, map, take}
use Rattle.cs_model.specs.declared.entry.Entry.{Entry}
use Rattle.cs_model.specs.declared.entry.Entry.TheVariants.{End}
use Rattle.cs_model.specs.Changes.{table}
use Rattle.cs_model.specs.State.{State, begin_of}
use Rattle.cs_model.specs.Steps.{Legal}
use Rattle.log_summary.specs.Summary.{summary}
use Rattle.group_book.specs.Commits.{Sizes}
use Rattle.group_log.specs.Followed.{Ground, ground_of}
use Rattle.script_reader.specs.declared.script.Mode.TheVariants as mode
use Rattle.script_reader.specs.declared.script.Script.{Script}
use Rattle.script_reader.specs.Scripts.{IsScript}
use Rattle.script_runner.specs.Schedule.{ArePieces, Scheduled}
use Rattle.script_turns.specs.Histories.{IsHistory, IsFrontHistory}

-- the log of a whole run: such a history, which follows the script line by line
pub record IsLogOf (origin : Ground) (script : Script) (log : List Entry) : Type 0 where
  pub history : IsHistory origin script log
  pub scheduled : Scheduled origin script log

-- the script of the first lines alone, with all its sessions
abbrev pub first_lines : ℕ → Script → Script
first_lines n script = record { schema = script.schema; lines = take n script.lines; sessions = script.sessions }

-- the log of a run that stopped after so many lines, or, where these are all, after so many Ends: such a history of a run that
-- stopped within these lines, which follows them one by one
pub record IsFrontLogOf (origin : Ground) (script : Script) (log : List Entry) : Type 0 where
  pub lines : ℕ
  pub ended : ℕ
  pub history : IsFrontHistory origin (first_lines lines script) log
  pub last : 1 ≤ ended → length script.lines ≤ lines
  pub events : List Entry
  pub pieces : ArePieces origin [] (take lines script.lines) events
  pub ends : log ≡ events ++ map End (take ended script.sessions)

-- the log of a run, which was whole or stopped
abbrev pub IsMadeOf : Ground → Script → List Entry → Type 0
IsMadeOf origin script log = IsLogOf origin script log ⊎ IsFrontLogOf origin script log

-- the bytes are a script that was run line by line, with row groups so large, and this is the summary of the log of its run: the rows are
-- those of the table at the clock of the state that the log leads to
pub record Summed (sizes : Sizes) (bytes whole : List ℕ) : Type 0 where
  pub script : Script
  pub log : List Entry
  pub state : State
  pub reads : IsScript mode.Replay bytes script
  pub run : IsLogOf (ground_of script.schema sizes) script log
  pub leads : Legal (begin_of script.schema) log state
  pub is : whole ≡ summary log (length (table state.changes state.clock))
