-- The works of a session's REORGANIZE, section by section, and how far it is.
use Rattle.std.specs.Prelude.{◌≡◌, ◌⊎◌, ◌++◌, ℕ, List, [], Option, None, Some}
use Rattle.cs_model.specs.declared.entry.Entry.{Entry}
use Rattle.cs_model.specs.declared.work.Actor.TheVariants.{Session}
use Rattle.cs_model.specs.Actors.{turns_of}
use Rattle.group_log.specs.Followed.{Ground}
use Rattle.group_log.specs.Reorganizing.{works_of, IsIdle, Saw}
use Rattle.group_view.specs.declared.claim.Claim.{Claim}
use Rattle.group_view.specs.Claims.{IsMendable}
use Rattle.history_gate.specs.Histories.{own_numbers, list_of, Tells}
use Rattle.history_gate.specs.Passes.{PassState}
use Rattle.statement_core.specs.Course.{Course}
use Rattle.statement_core.specs.Courses.{IsCourse, IsTurning}
use Rattle.statement_core.specs.declared.movers.Turned.TheVariants as turned
use Rattle.statement_core.specs.Reorganizes.{IsLedgerAt, HoldsAt}
use Rattle.session_pool.specs.declared.attempt.Attempt.{Attempt}
use Rattle.session_pool.specs.declared.attempt.Attempt.TheVariants.{Lent, Idle, Short}
use Rattle.session_pool.specs.declared.event.Event.{Event}
use Rattle.session_pool.specs.Events.{entries_in, number_in}
use Rattle.session_pool.specs.Sections.{BegunBy, IsGrown}
use Rattle.session_pool.specs.Statements.{AreWorks}

-- ---- sections

-- the events of a close: none where no store was open
abbrev pub ClosesBy : ℕ → Option ℕ → List Event → List Event → Type 0
ClosesBy session None before after = after ≡ before
ClosesBy session (Some id) before after = IsGrown session None before after

-- the events of an attempt at a turn: what is lent can be worked on; none where there is nothing to do, and perhaps none where memory was
-- wanting
abbrev pub AttemptsBy : ℕ → Attempt → List Event → List Event → Type 0
AttemptsBy session (Lent claim) before after = IsGrown session (Some claim) before after × IsMendable claim
AttemptsBy session (Idle ledger) before after = after ≡ before
AttemptsBy session Short before after = IsGrown session None before after ⊎ (after ≡ before)

-- the log of an attempt: it begins a turn; or the session's choice is Idle, and the ledger is that of this moment
abbrev pub Attempts : Ground → ℕ → Attempt → List Entry → List Entry → Type 0
Attempts origin session (Lent claim) before after = BegunBy origin (Session session) (turned.Lent claim) before after
Attempts origin session (Idle ledger) before after = (after ≡ before) × HoldsAt origin (IsIdle origin.sizes session) before × IsLedgerAt origin before ledger
Attempts origin session Short before after = Unit {0}

-- what the last event of an attempt lent
abbrev pub lent_by : Attempt → Option Claim
lent_by (Lent claim) = Some claim
lent_by (Idle ledger) = None
lent_by Short = None

-- what it lent can be worked on
abbrev pub IsWorthWork : Attempt → Type 0
IsWorthWork (Lent claim) = IsMendable claim
IsWorthWork (Idle ledger) = Unit {0}
IsWorthWork Short = Unit {0}

-- ---- passes

-- the later pass has of the session the entries of the earlier one and then works, and has seen no turn of it since
pub record HasWorked (session : ℕ) (before after : PassState Event) : Type 0 where
  pub gate : after.gate ≡ before.gate
  pub reserve : after.reserve ≡ before.reserve
  pub numbers : own_numbers after.own ≡ own_numbers before.own
  pub works : List Event
  pub list : list_of session after.own ≡ list_of session before.own ++ works
  pub are : AreWorks (entries_in works)
  pub told : Tells number_in after.own after.seen
  pub since : List Entry
  pub seen : entries_in after.seen ≡ entries_in before.seen ++ since
  pub none : turns_of session since ≡ []

-- ---- its course

-- the session's REORGANIZE is on this course at the end of the log, and has made no work yet
pub record HasBegun (origin : Ground) (log : List Entry) (session : ℕ) (course : Course) : Type 0 where
  pub from : List Entry
  pub behind : List Entry
  pub split : log ≡ from ++ behind
  pub is : IsCourse origin session from behind course
  pub none : works_of session behind ≡ []

-- it has looked for the open store
pub record IsUnderWay (origin : Ground) (log : List Entry) (session : ℕ) (course : Course) : Type 0 where
  pub from : List Entry
  pub behind : List Entry
  pub split : log ≡ from ++ behind
  pub is : IsTurning origin session from behind course

-- it has made all its turns, or nothing was left for it at a moment after its last work
pub record HasStopped (origin : Ground) (log : List Entry) (session : ℕ) (course : Course) : Type 0 where
  pub from : List Entry
  pub behind : List Entry
  pub split : log ≡ from ++ behind
  pub is : IsTurning origin session from behind course
  pub stopped : (course.turns ≡ 0) ⊎ Saw origin (IsIdle origin.sizes session) session from behind []
