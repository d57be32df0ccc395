-- What one section at the gate adds to the history, and to the entries of its pass.
use Rattle.std.specs.Prelude.{◌≡◌, ◌+◌, ◌++◌, ℕ, List, [], ◌∷◌, Option, None, Some, Result, Ok, Err, false}
use mathlib.Core.List.{IsPrefix}
use Rattle.cs_model.specs.declared.entry.Entry.{Entry}
use Rattle.cs_model.specs.declared.work.Actor.{Actor}
use Rattle.cs_model.specs.declared.work.Work.{Work}
use Rattle.cs_model.specs.Actors.{is_turn}
use Rattle.group_book.specs.Book as book
use Rattle.group_log.specs.Followed.{Ground}
use Rattle.group_view.specs.declared.claim.Claim.{Claim}
use Rattle.group_view.specs.Claims.{IsMendable}
use Rattle.history_gate.specs.Histories.{added, Tells}
use Rattle.history_gate.specs.Passes.{PassState}
use Rattle.statement_core.specs.declared.movers.Turned.{Turned}
use Rattle.statement_core.specs.declared.movers.Turned.TheVariants.{Lent, Alone, Short, Idle}
use Rattle.statement_core.specs.Turns.{TurnsTo, EndsBy}
use Rattle.session_pool.specs.declared.event.Event.{Event}
use Rattle.session_pool.specs.Events.{number_in}
use Rattle.session_pool.specs.Runs.{EndsShort, HasNothingLeft}

-- ---- the history

-- the history has one event more: a work of a number, which lent this
pub record IsGrown (number : ℕ) (lent : Option Claim) (before after : List Event) : Type 0 where
  pub event : Event
  pub by : number_in event ≡ number
  pub lends : event.lent ≡ lent
  pub works : is_turn event.entry ≡ false
  pub events : after ≡ before ++ event ∷ []

-- what the first event of a turn adds to it
abbrev pub GrowsBy : ℕ → Turned → List Event → List Event → Type 0
GrowsBy number (Lent claim) before after = IsGrown number (Some claim) before after × IsMendable claim
GrowsBy number Alone before after = IsGrown number None before after
GrowsBy number Short before after = IsGrown number None before after
GrowsBy number Idle before after = after ≡ before

-- and what a look of a mover's thread does: there is no event where the sessions have ended or the log had no room
abbrev pub LooksBy : {E : Type 0} → ℕ → Option (Result Turned E) → List Event → List Event → Type 0
LooksBy mover None before after = after ≡ before
LooksBy mover (Some (Err memory)) before after = after ≡ before
LooksBy mover (Some (Ok turned)) before after = GrowsBy (64 + mover) turned before after

-- ---- the log

-- the log after the first event of an actor's turn, by what that gave
abbrev pub BegunBy : Ground → Actor → Turned → List Entry → List Entry → Type 0
BegunBy origin by turned before after = (piece : List Entry) × (after ≡ before ++ piece) × TurnsTo origin before by turned piece

-- the log after the last one, which is this work of the claim that it held
abbrev pub EndedBy : (book.Choice → book.Claim → Option Work) → Ground → Actor → List Entry → List Entry → Type 0
EndedBy ends origin by before after = (piece : List Entry) × (after ≡ before ++ piece) × EndsBy ends origin before by piece

-- ---- what a section finds

-- the history begins with what the pass has seen, and has of the pass's numbers the entries that it keeps
pub record IsFound (pass : PassState Event) (found : List Event) : Type 0 where
  pub seen : IsPrefix pass.seen found
  pub own : Tells number_in pass.own found

-- this holds of the history that a section of the pass found
abbrev pub After : PassState Event → (List Event → Type 0) → Type 0
After pass P = (found : List Event) × IsFound pass found × P found

-- ---- the entries of a pass

-- a work of a number, which lent this, stands at the end of that number's list
pub record IsAdded (number : ℕ) (lent : Option Claim) (before after : List (ℕ × List Event)) : Type 0 where
  pub event : Event
  pub by : number_in event ≡ number
  pub lends : event.lent ≡ lent
  pub works : is_turn event.entry ≡ false
  pub own : after ≡ added number_in event before

-- the first event of a mover's turn, by what it gave: what it lent can be worked on. There is no event where there is nothing to do.
abbrev pub AddsTurn : ℕ → Turned → List (ℕ × List Event) → List (ℕ × List Event) → Type 0
AddsTurn mover (Lent claim) before after = IsAdded (64 + mover) (Some claim) before after × IsMendable claim
AddsTurn mover Alone before after = IsAdded (64 + mover) None before after
AddsTurn mover Short before after = IsAdded (64 + mover) None before after
AddsTurn mover Idle before after = after ≡ before

-- what the end of the log says after it: want of memory stands last, or nothing is left for the mover
abbrev pub StandsLast : Ground → ℕ → Turned → List Entry → Type 0
StandsLast origin mover (Lent claim) log = Unit {0}
StandsLast origin mover Alone log = Unit {0}
StandsLast origin mover Short log = EndsShort mover log
StandsLast origin mover Idle log = HasNothingLeft origin mover log

-- what a look of its thread adds
abbrev pub LooksAt : {E : Type 0} → ℕ → Option (Result Turned E) → List (ℕ × List Event) → List (ℕ × List Event) → Type 0
LooksAt mover None before after = after ≡ before
LooksAt mover (Some (Err memory)) before after = after ≡ before
LooksAt mover (Some (Ok turned)) before after = AddsTurn mover turned before after
