-- What the calls that make the moves of a REORGANIZE say of them.
use Rattle.std.specs.Prelude.{◌≡◌, ◌⊎◌, ◌+◌, ℕ, List, [], ◌++◌, All, Bool, true, false}
use Rattle.cs_model.specs.declared.entry.Entry.{Entry}
use Rattle.cs_model.specs.declared.work.Actor.{Actor}
use Rattle.group_log.specs.Followed.{Ground}
use Rattle.group_log.specs.Reorganizing.{IsIdle, LeavesGroups}
use Rattle.statement_core.specs.Course.{Course}
use Rattle.statement_core.specs.Courses.{IsTurnOf}
use Rattle.script_runner.specs.Schedule.{IsOwnWork, LeavesAmong, LooksAmong}
use Rattle.statement_core.specs.declared.started.Outcome.{Outcome}
use Rattle.statement_core.specs.declared.started.Outcome.TheVariants as outcome
use Rattle.statement_core.specs.Reorganizes.{HoldsAt}

-- the log went on by moves of a session, of which this holds
pub record Moved (session : ℕ) (before after : List Entry) (P : List Entry → Type 0) : Type 0 where
  pub moves : List Entry
  pub is : after ≡ before ++ moves
  pub own : All (IsOwnWork session) moves
  pub holds : P moves

-- ---- one turn

-- a whole turn of a session: a work that begins it, and then one that ends it
pub record IsWholeTurn (session : ℕ) (moves : List Entry) : Type 0 where
  pub first : List Entry
  pub last : List Entry
  pub joined : moves ≡ first ++ last
  pub begins : IsTurnOf session true first
  pub ends : IsTurnOf session false last

-- what is made where a session may make a turn: a whole one, which is one less that it may still make; or none, where its choice is Idle
abbrev pub MakesTurn : Ground → ℕ → List Entry → Course → Course → Bool → List Entry → Type 0
MakesTurn origin session before old new true moves = IsWholeTurn session moves × (old ≡ record new { turns = new.turns + 1 })
MakesTurn origin session before old new false moves = (moves ≡ []) × (new ≡ old) × HoldsAt origin (IsIdle origin.sizes session) before

-- ---- all of them

-- memory was wanting: it did nothing, or had looked for the open store first
abbrev pub StopsShort : Ground → List Entry → ℕ → List Entry → Type 0
StopsShort origin before session moves = (moves ≡ []) ⊎ LooksAmong origin before session moves

-- it leaves these groups, among its moves and since its Start
abbrev pub LeavesBoth : Ground → List Entry → ℕ → List (ℕ × Actor) → List Entry → Type 0
LeavesBoth origin before session groups moves = LeavesAmong origin before session moves groups × LeavesGroups origin (before ++ moves) session groups

-- the moves after the outcome of a statement: there are some of a REORGANIZE alone
abbrev pub GivesBy : Ground → List Entry → ℕ → Outcome → List Entry → Type 0
GivesBy origin before session outcome.Nothing moves = moves ≡ []
GivesBy origin before session (outcome.Answer r) moves = moves ≡ []
GivesBy origin before session (outcome.Writes list present affected parcel) moves = moves ≡ []
GivesBy origin before session (outcome.Load keys parcel) moves = moves ≡ []
GivesBy origin before session (outcome.Commit parcel) moves = moves ≡ []
GivesBy origin before session (outcome.Left groups) moves = LeavesBoth origin before session groups moves
GivesBy origin before session outcome.Short moves = StopsShort origin before session moves
