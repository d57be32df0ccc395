-- The history of a script: what the log of a run is, whoever takes the turns of its sessions.
use Rattle.std.specs.Prelude.{List}
use Rattle.cs_model.specs.declared.entry.Entry.{Entry}
use Rattle.cs_model.specs.State.{State}
use Rattle.group_book.specs.Book.{Book}
use Rattle.group_log.specs.Counted.{IsCounted}
use Rattle.group_log.specs.Followed.{Ground, Followed}
use Rattle.group_log.specs.Reorganizing.{IsReorganized}
use Rattle.script_reader.specs.declared.script.Script.{Script}
use Rattle.script_turns.specs.Turns.{Turns, FrontTurns}

-- a log that the row model and the book of groups follow from where it begins, whose answers tell the counts of segments of their
-- Starts, in which sessions work as their REORGANIZE may and are told what that leaves, and that has each session's statements
-- once and in order, and its End
pub record IsHistory (origin : Ground) (script : Script) (log : List Entry) : Type 0 where
  pub state : State
  pub book : Book
  pub followed : Followed origin log state book
  pub counted : IsCounted origin log
  pub reorganized : IsReorganized origin log
  pub turns : Turns origin.begin script log

-- the same of a run that stopped: each session's turns are the first of those that it is to have
pub record IsFrontHistory (origin : Ground) (script : Script) (log : List Entry) : Type 0 where
  pub state : State
  pub book : Book
  pub followed : Followed origin log state book
  pub counted : IsCounted origin log
  pub reorganized : IsReorganized origin log
  pub turns : FrontTurns origin.begin script log
