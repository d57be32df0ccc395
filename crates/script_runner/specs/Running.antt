-- A run of a script's steps so far.
use Rattle.std.specs.Prelude.{◌≡◌, ◌≤◌, ◌<◌, ℕ, List, [], ◌++◌, length, map, take, All, Bool, true, false, Option, None, Some}
use Rattle.cs_model.specs.declared.entry.Entry.{Entry}
use Rattle.cs_model.specs.declared.entry.Entry.TheVariants.{End}
use Rattle.cs_model.specs.declared.work.Actor.{Actor}
use Rattle.cs_model.specs.declared.work.Actor.TheVariants.{Session, Mover}
use Rattle.cs_model.specs.Actors.{entries_of, is_begun, has_ended}
use Rattle.cs_model.specs.State.{Begin}
use Rattle.group_book.specs.Commits.{Sizes}
use Rattle.group_book.specs.Turns.{same_actor}
use Rattle.group_log.specs.Followed.{Ground}
use Rattle.group_view.specs.declared.claim.Claim.{Claim}
use Rattle.group_view.specs.Claims.{IsMendable}
use Rattle.group_directory.specs.Claiming.{IsShareOf}
use Rattle.group_directory.specs.Installing.{held_by}
use Rattle.log_laws.specs.Laws.{AreDistinct}
use Rattle.script_reader.specs.declared.script.Step.{Step}
use Rattle.script_reader.specs.declared.script.Step.TheVariants as step
use Rattle.script_reader.specs.Scripts.{taken_by, text_of, half_done, ArePaired, IsServed}
use Rattle.statement_core.specs.Awaiting.{Awaits}
use Rattle.script_runner.specs.Schedule.{ArePieces}
use Rattle.statement_core.specs.declared.started.Started.{Started}
use Rattle.statement_core.specs.CoreValue.{CoreValue}

-- what a session has started is known to be so
abbrev pub IsWaiting : Sizes → Begin → List Entry → ℕ → Option Started → Type 0
IsWaiting sizes begin log session None = ⊥
IsWaiting sizes begin log session (Some started) = Awaits sizes begin log session started

-- what was started stands ready for each statement that is half done
abbrev pub Waits : Sizes → Begin → List Entry → (ℕ → Option Started) → Type 0
Waits sizes begin log waiting = (session : ℕ) → is_begun (entries_of session log) ≡ true → IsWaiting sizes begin log session (waiting session)

-- the core serves this session, which goes on, and has a statement half done or none
pub record IsGoing (core : CoreValue) (session : ℕ) (begun : Bool) : Type 0 where
  pub served : IsServed core.sessions (Session session)
  pub half : is_begun (entries_of session core.log) ≡ begun
  pub going : has_ended (entries_of session core.log) ≡ false

-- it is a mover, and holds no claim
pub record IsFree (core : CoreValue) (mover : ℕ) : Type 0 where
  pub served : IsServed core.sessions (Mover mover)
  pub free : held_by (Mover mover) core.claims ≡ None

-- the step can be run
abbrev pub MayRun : CoreValue → Step → Type 0
MayRun core (step.Whole session text) = IsGoing core session false × (length text ≤ 65536)
MayRun core (step.Begun session text) = IsGoing core session false × (length text ≤ 65536)
MayRun core (step.Finished session) = IsGoing core session true
MayRun core (step.Turn mover) = IsFree core mover
MayRun core (step.Claiming mover) = IsFree core mover
MayRun core (step.Installing mover) = IsServed core.sessions (Mover mover)

-- ---- claims

-- what a claim lent stands ready for its mover, and can be worked on; there is none where no claim is held
abbrev pub IsReadyFor : Option (Actor × Claim) → Option Claim → Type 0
IsReadyFor None lent = lent ≡ None
IsReadyFor (Some held) None = ⊥
IsReadyFor (Some held) (Some lent) = IsShareOf held.1 lent × IsMendable lent

-- so it is for each mover; and between steps no session holds a claim
pub record AreReady (claims : List (Actor × Claim)) (waiting : ℕ → Option Claim) : Type 0 where
  pub movers : (mover : ℕ) → mover < 65 → IsReadyFor (held_by (Mover mover) claims) (waiting mover)
  pub sessions : (session : ℕ) → held_by (Session session) claims ≡ None

-- the claims of all others are as before
abbrev pub OthersKeep : Actor → List (Actor × Claim) → List (Actor × Claim) → Type 0
OthersKeep by old new = (other : Actor) → same_actor by other ≡ false → held_by other new ≡ held_by other old

-- what a step makes of the claims: a session's, nothing; a mover's is over, but after the first event of a turn alone
abbrev pub LeavesClaims : Step → List (Actor × Claim) → List (Actor × Claim) → Type 0
LeavesClaims (step.Whole session text) old new = new ≡ old
LeavesClaims (step.Begun session text) old new = new ≡ old
LeavesClaims (step.Finished session) old new = new ≡ old
LeavesClaims (step.Turn mover) old new = (held_by (Mover mover) new ≡ None) × OthersKeep (Mover mover) old new
LeavesClaims (step.Claiming mover) old new = OthersKeep (Mover mover) old new
LeavesClaims (step.Installing mover) old new = (held_by (Mover mover) new ≡ None) × OthersKeep (Mover mover) old new

-- nobody holds a claim
abbrev pub AreFree : List (Actor × Claim) → Type 0
AreFree claims = (actor : Actor) → held_by actor claims ≡ None

-- ---- steps

-- these steps can be run by a core that serves these sessions
pub record AreRunnable (sessions : List ℕ) (steps : List Step) : Type 0 where
  pub short : All (λ step. length (text_of step) ≤ 65536) steps
  pub served : All (λ step. IsServed sessions (taken_by step)) steps
  pub paired : ArePaired [] steps

-- the steps done have their pieces in the log, and those left may follow
pub record Running (origin : Ground) (core : CoreValue) (done left : List Step) : Type 0 where
  pub pieces : ArePieces origin [] done core.log
  pub begun : (session : ℕ) → is_begun (entries_of session core.log) ≡ half_done (Session session) done
  pub going : (session : ℕ) → has_ended (entries_of session core.log) ≡ false
  pub free : (mover : ℕ) → half_done (Mover mover) done ≡ false → held_by (Mover mover) core.claims ≡ None
  pub none : (session : ℕ) → held_by (Session session) core.claims ≡ None
  pub paired : ArePaired done left

-- the log follows the first of these steps
abbrev pub IsFrontRun : Ground → List Step → List Entry → Type 0
IsFrontRun origin steps log = (n : ℕ) × ArePieces origin [] (take n steps) log

-- the Ends of the first of these sessions came after the first log
pub record Ending (first now : List Entry) (done left : List ℕ) : Type 0 where
  pub log : now ≡ first ++ map End done
  pub rests : (session : ℕ) → is_begun (entries_of session now) ≡ false
  pub going : All (λ session. has_ended (entries_of session now) ≡ false) left
  pub distinct : AreDistinct left
