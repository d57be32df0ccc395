-- What the calls of a core ask of a REORGANIZE, and what they tell it.
use Rattle.std.specs.Prelude.{◌≡◌, ℕ, List, [], ◌∷◌, ◌++◌, map, length, Bool, true, Option, None, Some}
use Rattle.cs_model.specs.declared.entry.Bound.{Bound}
use Rattle.cs_model.specs.declared.entry.Bound.TheVariants as bound
use Rattle.cs_model.specs.declared.entry.Entry.{Entry}
use Rattle.cs_model.specs.declared.entry.Entry.TheVariants.{Mover}
use Rattle.cs_model.specs.declared.entry.Refusal.TheVariants.{Memory}
use Rattle.cs_model.specs.declared.entry.Reply.{Reply}
use Rattle.cs_model.specs.declared.entry.Reply.TheVariants as reply
use Rattle.cs_model.specs.declared.work.Actor.{Actor}
use Rattle.cs_model.specs.declared.work.Actor.TheVariants as actor
use Rattle.cs_model.specs.declared.work.Work.TheVariants as work
use Rattle.cs_model.specs.State.{State}
use Rattle.group_book.specs.Book.{Book}
use Rattle.group_log.specs.Followed.{Ground, Moment}
use Rattle.group_log.specs.Reorganizing.{from_start, held_groups, works_of, HasNoneOpen, IsHalfDone, LeavesGroups, MayTurn}
use Rattle.group_log.specs.Reports.{line_of}
use Rattle.group_directory.specs.declared.ledger.Ledger.{Ledger}
use Rattle.statement_core.specs.declared.started.Outcome.{Outcome}
use Rattle.statement_core.specs.declared.started.Outcome.TheVariants as outcome

-- ---- which statement it is

-- whether a REORGANIZE closes the open store; none of another statement
abbrev pub reorganizes : Bound → Option Bool
reorganizes bound.Begin = None
reorganizes bound.Commit = None
reorganizes bound.Rollback = None
reorganizes bound.Nothing = None
reorganizes (bound.Statistics on) = None
reorganizes (bound.Insert plan) = None
reorganizes (bound.Update plan) = None
reorganizes (bound.Delete condition) = None
reorganizes (bound.Select query) = None
reorganizes bound.GroupReport = None
reorganizes bound.SegmentReport = None
reorganizes (bound.Reorganize all) = Some all
reorganizes (bound.Refused refusal) = None

-- ---- ledgers

-- the ledger is that of a book
pub record IsLedgerOf (book : Book) (ledger : Ledger) : Type 0 where
  pub lines : ledger.lines ≡ map line_of book.groups
  pub buffered : ledger.buffered ≡ length book.buffer
  pub holders : ledger.holders ≡ held_groups book

-- a ledger of a book for a REORGANIZE, and none for another statement
abbrev pub IsLedgerFor : Book → Option Bool → Option Ledger → Type 0
IsLedgerFor book None ledger = ledger ≡ None
IsLedgerFor book (Some all) None = ⊥
IsLedgerFor book (Some all) (Some ledger) = IsLedgerOf book ledger

-- this holds of the moment that the log leads to
pub record HoldsAt (origin : Ground) (P : State → Book → Type 0) (log : List Entry) : Type 0 where
  pub moment : Moment origin log
  pub holds : P moment.state moment.book

-- the ledger is that of this moment
abbrev pub IsLedgerAt : Ground → List Entry → Ledger → Type 0
IsLedgerAt origin log ledger = HoldsAt origin (λ state book. IsLedgerOf book ledger) log

-- the ledger of the Start of a REORGANIZE that has done nothing yet
pub record IsStartLedger (origin : Ground) (log : List Entry) (session : ℕ) (all : Bool) (ledger : Ledger) : Type 0 where
  pub half : IsHalfDone origin log session
  pub same : half.all ≡ all
  pub first : works_of session (half.begun).behind ≡ []
  pub of : IsLedgerOf half.book ledger

-- what a Start takes: a ledger for a REORGANIZE, and none for another statement
abbrev pub HasLedger : Ground → List Entry → ℕ → Option Bool → Option Ledger → Type 0
HasLedger origin log session None ledger = ledger ≡ None
HasLedger origin log session (Some all) None = ⊥
HasLedger origin log session (Some all) (Some ledger) = IsStartLedger origin log session all ledger

-- ---- what its calls ask for

-- the session has a REORGANIZE half done, which may begin a turn
pub record HasTurn (origin : Ground) (log : List Entry) (session : ℕ) : Type 0 where
  pub half : IsHalfDone origin log session
  pub may : MayTurn origin session half.all half.book (from_start half.begun) (half.begun).behind

-- the actor may begin a turn: a mover at any time
abbrev pub MayBegin : Ground → List Entry → Actor → Type 0
MayBegin origin log (actor.Session session) = HasTurn origin log session
MayBegin origin log (actor.Mover mover) = Unit {0}

-- the actor may end its turn
abbrev pub MayEnd : Ground → List Entry → Actor → Type 0
MayEnd origin log (actor.Session session) = IsHalfDone origin log session
MayEnd origin log (actor.Mover mover) = Unit {0}

-- the session has a REORGANIZE half done that is to close the open store, and has done nothing yet
pub record HasClose (origin : Ground) (log : List Entry) (session : ℕ) : Type 0 where
  pub half : IsHalfDone origin log session
  pub all : half.all ≡ true
  pub first : works_of session (half.begun).behind ≡ []

-- the actor may close the open store: no mover does
abbrev pub MayClose : Ground → List Entry → Actor → Type 0
MayClose origin log (actor.Session session) = HasClose origin log session
MayClose origin log (actor.Mover mover) = ⊥

-- ---- what its calls tell

-- the log after an actor has looked for the open store: with its close, or the same, where none was open
abbrev pub IsClosing : Ground → List Entry → Actor → Option ℕ → List Entry → Type 0
IsClosing origin before by None after = (after ≡ before) × HoldsAt origin HasNoneOpen before
IsClosing origin before by (Some id) after = after ≡ before ++ Mover by (work.Close id) ∷ []

-- ---- what its Finish is given

-- an outcome that ends a statement: its work alone ends no REORGANIZE
abbrev pub IsOver : Bound → Outcome → Type 0
IsOver b outcome.Nothing = reorganizes b ≡ None
IsOver b (outcome.Answer r) = Unit {0}
IsOver b (outcome.Writes list present affected parcel) = Unit {0}
IsOver b (outcome.Load keys parcel) = Unit {0}
IsOver b (outcome.Commit parcel) = Unit {0}
IsOver b (outcome.Left groups) = Unit {0}
IsOver b outcome.Short = Unit {0}

-- what the outcome says that was left is what the session's REORGANIZE leaves
abbrev pub LeavesBy : Ground → List Entry → ℕ → Outcome → Type 0
LeavesBy origin log session outcome.Nothing = Unit {0}
LeavesBy origin log session (outcome.Answer r) = Unit {0}
LeavesBy origin log session (outcome.Writes list present affected parcel) = Unit {0}
LeavesBy origin log session (outcome.Load keys parcel) = Unit {0}
LeavesBy origin log session (outcome.Commit parcel) = Unit {0}
LeavesBy origin log session (outcome.Left groups) = LeavesGroups origin log session groups
LeavesBy origin log session outcome.Short = Unit {0}

-- ---- what its Finish replies

-- the reply is no list of what was left
abbrev pub IsNoneLeft : Reply → Type 0
IsNoneLeft reply.Done = Unit {0}
IsNoneLeft (reply.Affected count) = Unit {0}
IsNoneLeft (reply.Rows rows segments) = Unit {0}
IsNoneLeft (reply.Groups lines buffered) = Unit {0}
IsNoneLeft (reply.Segments lines) = Unit {0}
IsNoneLeft (reply.Left groups) = ⊥
IsNoneLeft (reply.Refused refusal) = Unit {0}

-- the reply to an outcome: to Left that list, to Short error 701; to any other outcome it is no such list
abbrev pub IsToldBy : Outcome → Reply → Type 0
IsToldBy outcome.Nothing r = IsNoneLeft r
IsToldBy (outcome.Answer given) r = IsNoneLeft r
IsToldBy (outcome.Writes list present affected parcel) r = IsNoneLeft r
IsToldBy (outcome.Load keys parcel) r = IsNoneLeft r
IsToldBy (outcome.Commit parcel) r = IsNoneLeft r
IsToldBy (outcome.Left groups) r = r ≡ reply.Left groups
IsToldBy outcome.Short r = r ≡ reply.Refused Memory
