-- Logs that agree but for the lines of reports on segments.
use Rattle.std.specs.Prelude.{◌≡◌, ℕ, List, [], ◌==◌, count_by}
use Rattle.std.specs.declared.alloc.Global.{Global}
use Rattle.std.specs.declared.sync.Arc.{Arc}
use Rattle.cs_model.specs.declared.entry.Bound.{Bound}
use Rattle.cs_model.specs.declared.entry.Entry.{Entry}
use Rattle.cs_model.specs.declared.entry.Entry.TheVariants.{Start, Finish, End, Mover}
use Rattle.cs_model.specs.declared.entry.Reply.{Reply}
use Rattle.cs_model.specs.declared.entry.Reply.TheVariants.{Done, Affected, Rows, Groups, Segments, Left, Refused}
use Rattle.log_summary.specs.Summary.{is_short_event}
use Rattle.group_log.specs.Followed.{Ground}
use Rattle.script_reader.specs.declared.script.Script.{Script}
use Rattle.script_runner.specs.Logs.{IsLogOf}

-- the reply without the lines of a report on segments
abbrev pub without_segments : Reply → Reply
without_segments Done = Done
without_segments (Affected count) = Affected count
without_segments (Rows rows segments) = Rows rows segments
without_segments (Groups lines buffered) = Groups lines buffered
without_segments (Segments lines) = Segments []
without_segments (Left groups) = Left groups
without_segments (Refused refusal) = Refused refusal

-- the other entry is the same but for the lines of a report on segments; of two Starts the statements are the same
abbrev pub Agrees : Entry → Entry → Type 0
Agrees (Start session bound short) other = (b : Arc Bound Global) × (b.value ≡ bound.value) × (other ≡ Start session b short)
Agrees (Finish session reply) other = (r : Reply) × (without_segments r ≡ without_segments reply) × (other ≡ Finish session r)
Agrees (End session) other = other ≡ End session
Agrees (Mover actor work) other = other ≡ Mover actor work

-- the log of a whole run of the script, line by line, in which memory was never wanting
pub record IsAmpleLogOf (origin : Ground) (script : Script) (log : List Entry) : Type 0 where
  pub run : IsLogOf origin script log
  pub ample : count_by is_short_event log ≡ 0

-- the text has five lines: a summary has a sixth one where memory was wanting
abbrev pub HasFiveLines : List ℕ → Type 0
HasFiveLines whole = count_by (λ byte. byte == 10) whole ≡ 5
