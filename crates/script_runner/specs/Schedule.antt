-- Which events a script asks for, line by line.
use Rattle.std.specs.Prelude.{◌≡◌, ◌⊎◌, ℕ, List, [], ◌∷◌, ◌++◌, map, All}
use Rattle.cs_model.specs.declared.entry.Entry.{Entry}
use Rattle.cs_model.specs.declared.entry.Entry.TheVariants.{Start, Finish, End, Mover}
use Rattle.cs_model.specs.declared.entry.Reply.{Reply}
use Rattle.cs_model.specs.declared.entry.Reply.TheVariants as reply
use Rattle.cs_model.specs.declared.work.Actor.{Actor}
use Rattle.cs_model.specs.declared.work.Actor.TheVariants as actor
use Rattle.group_log.specs.Followed.{Ground}
use Rattle.group_log.specs.Reorganizing.{HasLooked, IsHalfDone, LeavesFrom}
use Rattle.script_reader.specs.declared.script.Script.{Script}
use Rattle.script_reader.specs.declared.script.Step.{Step}
use Rattle.script_reader.specs.declared.script.Step.TheVariants.{Whole, Begun, Finished, Turn, Claiming, Installing}
use Rattle.script_turns.specs.Turns.{IsStart, IsFinishOf}
use Rattle.statement_core.specs.Turns.{BeginsTurn, EndsTurn}

-- a work of the session
abbrev pub IsOwnWork : ℕ → Entry → Type 0
IsOwnWork session (Start s bound short) = ⊥
IsOwnWork session (Finish s r) = ⊥
IsOwnWork session (End s) = ⊥
IsOwnWork session (Mover by w) = by ≡ actor.Session session

-- the session has a REORGANIZE half done, which has looked for the open store among these moves, where it is to close that
pub record LooksAmong (origin : Ground) (before : List Entry) (session : ℕ) (moves : List Entry) : Type 0 where
  pub half : IsHalfDone origin before session
  pub looked : HasLooked origin session half.all before moves

-- it leaves these groups by what it did and saw among these moves
pub record LeavesAmong (origin : Ground) (before : List Entry) (session : ℕ) (moves : List Entry) (left : List (ℕ × Actor)) : Type 0 where
  pub half : IsHalfDone origin before session
  pub leaves : LeavesFrom origin session half.all half.book before moves left

-- what the Finish of a statement tells of its moves
abbrev pub TellsOf : Ground → List Entry → ℕ → List Entry → Reply → Type 0
TellsOf origin before session moves reply.Done = moves ≡ []
TellsOf origin before session moves (reply.Affected count) = moves ≡ []
TellsOf origin before session moves (reply.Rows rows segments) = moves ≡ []
TellsOf origin before session moves (reply.Groups lines buffered) = moves ≡ []
TellsOf origin before session moves (reply.Segments lines) = moves ≡ []
TellsOf origin before session moves (reply.Left groups) = LeavesAmong origin before session moves groups
TellsOf origin before session moves (reply.Refused refusal) = (moves ≡ []) ⊎ LooksAmong origin before session moves

-- this is the reply of a Finish
abbrev pub RepliesBy : (Reply → Type 0) → Entry → Type 0
RepliesBy Told (Start s bound short) = ⊥
RepliesBy Told (Finish s r) = Told r
RepliesBy Told (End s) = ⊥
RepliesBy Told (Mover by w) = ⊥

-- the moves of a session after this log, and before this Finish of its statement: the works of a REORGANIZE, which looks at the groups
-- before, among and after them
pub record AreMoves (origin : Ground) (before : List Entry) (session : ℕ) (moves : List Entry) (finish : Entry) : Type 0 where
  pub own : All (IsOwnWork session) moves
  pub told : RepliesBy (TellsOf origin before session moves) finish

-- the moves and the Finish of a statement
abbrev pub IsFinishing : Ground → List Entry → ℕ → List Entry → Type 0
IsFinishing origin before session piece = (moves : List Entry) × (b : Entry) × (piece ≡ moves ++ b ∷ []) × AreMoves origin before session moves b × IsFinishOf session b

-- the events of a mover's whole turn: the first, and then the last
pub record IsTurn (origin : Ground) (before : List Entry) (mover : ℕ) (piece : List Entry) : Type 0 where
  pub first : List Entry
  pub last : List Entry
  pub joined : piece ≡ first ++ last
  pub begins : BeginsTurn origin before (actor.Mover mover) first
  pub ends : EndsTurn origin (before ++ first) (actor.Mover mover) last

-- the events of a step after this log: a Start, a Finish with its moves, or both; the first event of a mover's turn, the last
-- one, or both
abbrev pub IsPiece : Ground → List Entry → Step → List Entry → Type 0
IsPiece origin before (Whole session text) piece =
    (a : Entry) × (rest : List Entry) × (piece ≡ a ∷ rest) × IsStart origin.begin before session text a × IsFinishing origin (before ++ a ∷ []) session rest
IsPiece origin before (Begun session text) piece = (a : Entry) × (piece ≡ a ∷ []) × IsStart origin.begin before session text a
IsPiece origin before (Finished session) piece = IsFinishing origin before session piece
IsPiece origin before (Turn mover) piece = IsTurn origin before mover piece
IsPiece origin before (Claiming mover) piece = BeginsTurn origin before (actor.Mover mover) piece
IsPiece origin before (Installing mover) piece = EndsTurn origin before (actor.Mover mover) piece

-- the entries after this log are a piece for each step, in order
abbrev pub ArePieces : Ground → List Entry → List Step → List Entry → Type 0
ArePieces origin before [] entries = entries ≡ []
ArePieces origin before (step ∷ steps) entries =
    (piece : List Entry) × (others : List Entry) × (entries ≡ piece ++ others) × IsPiece origin before step piece × ArePieces origin (before ++ piece) steps others

-- the log has a piece for each line, in order, and last the Ends of the sessions by their numbers
abbrev pub Scheduled : Ground → Script → List Entry → Type 0
Scheduled origin script log = (events : List Entry) × ArePieces origin [] script.lines events × (log ≡ events ++ map End script.sessions)
