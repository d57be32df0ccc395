-- The log of sessions and movers that ran side by side.
use Rattle.std.specs.Prelude.{◌≡◌, ◌⊎◌, ◌≤◌, ℕ, List, [], ◌∷◌, ◌++◌, length, All, Contains, Bool, true, false, None}
use Rattle.cs_model.specs.declared.entry.Entry.{Entry}
use Rattle.cs_model.specs.declared.entry.Entry.TheVariants.{Start, Finish, End, Mover}
use Rattle.cs_model.specs.declared.work.Actor.{Actor}
use Rattle.cs_model.specs.declared.work.Actor.TheVariants as actor
use Rattle.cs_model.specs.declared.work.Work.{Work}
use Rattle.cs_model.specs.Actors.{turns_of}
use Rattle.group_book.specs.Turns.{claim_by}
use Rattle.group_log.specs.Followed.{Ground}
use Rattle.cs_model.specs.Works.{lacks_memory}
use Rattle.script_reader.specs.declared.script.Script.{Script}
use Rattle.script_reader.specs.declared.script.Step.{Step}
use Rattle.script_turns.specs.Histories.{IsHistory, IsFrontHistory}
use Rattle.script_turns.specs.Turns.{texts_of, AreTurns}
use Rattle.statement_core.specs.Reorganizes.{HoldsAt}
use Rattle.statement_core.specs.Turns.{BeginsTurn}

-- ---- sessions

-- the entries of a session: among them are all of its turns, its statements once and in order, and its End; or, where it stopped,
-- the first of them
abbrev pub IsSessionRun : ℕ → List Step → Bool → List Entry → Type 0
IsSessionRun session lines true entries = AreTurns session (length (texts_of session lines)) (turns_of session entries)
IsSessionRun session lines false entries = (rest : List Entry) × AreTurns session (length (texts_of session lines)) (turns_of session entries ++ rest)

-- a Start, a Finish or an End is one of these sessions
abbrev pub IsTurnAmong : List ℕ → Entry → Type 0
IsTurnAmong sessions (Start session bound short) = Contains sessions session
IsTurnAmong sessions (Finish session reply) = Contains sessions session
IsTurnAmong sessions (End session) = Contains sessions session
IsTurnAmong sessions (Mover by work) = Unit {0}

-- ---- movers

-- a mover's entry is one of a mover from 1 to so many; when a session works, the history says
abbrev pub IsByMover : ℕ → Entry → Type 0
IsByMover movers (Start session bound short) = Unit {0}
IsByMover movers (Finish session reply) = Unit {0}
IsByMover movers (End session) = Unit {0}
IsByMover movers (Mover (actor.Session session) work) = Unit {0}
IsByMover movers (Mover (actor.Mover mover) work) = (1 ≤ mover) × (mover ≤ movers)

-- the log's last entry is a work of the mover that says that memory was wanting
pub record EndsShort (mover : ℕ) (log : List Entry) : Type 0 where
  pub before : List Entry
  pub work : Work
  pub last : log ≡ before ++ Mover (actor.Mover mover) work ∷ []
  pub short : lacks_memory work ≡ true

-- the mover holds no claim and has nothing to do at the log's end: its turn would have no event
abbrev pub HasNothingLeft : Ground → ℕ → List Entry → Type 0
HasNothingLeft origin mover log = BeginsTurn origin log (actor.Mover mover) []

-- nothing is left for the mover, or its want of memory or release stands last
abbrev pub IsLast : Ground → ℕ → List Entry → Type 0
IsLast origin mover log = HasNothingLeft origin mover log ⊎ EndsShort mover log

-- ---- the log

-- no actor holds a claim at the moment that a log leads to
abbrev pub IsFreeAt : Ground → List Entry → Type 0
IsFreeAt origin log = HoldsAt origin (λ state book. (by : Actor) → claim_by by book ≡ None) log

-- the log of a whole run: such a history, in which a mover's entries are those of one from 1 to `movers`, at whose end no actor
-- holds a claim and, where there are movers, nothing is left for mover 1, or its want of memory or release stands last
pub record IsRunOf (origin : Ground) (script : Script) (movers : ℕ) (log : List Entry) : Type 0 where
  pub history : IsHistory origin script log
  pub movers_are : All (IsByMover movers) log
  pub free : IsFreeAt origin log
  pub last : 1 ≤ movers → IsLast origin 1 log

-- the log of a run that stopped: such a history of a run that stopped, with the same of its movers
pub record IsFrontRunOf (origin : Ground) (script : Script) (movers : ℕ) (log : List Entry) : Type 0 where
  pub history : IsFrontHistory origin script log
  pub movers_are : All (IsByMover movers) log
  pub free : IsFreeAt origin log
