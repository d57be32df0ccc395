-- The history of a pool: the entries of the log, each with the claim that it lent.
use Rattle.std.specs.Prelude.{◌≡◌, ◌==◌, ◌≤◌, ◌<◌, ◌+◌, ℕ, List, [], ◌∷◌, map, fold, Option, None, Some, if◌then◌else◌}
use Rattle.cs_model.specs.declared.entry.Entry.{Entry}
use Rattle.cs_model.specs.declared.work.Actor.{Actor}
use Rattle.cs_model.specs.declared.work.Actor.TheVariants as actor
use Rattle.cs_model.specs.Actors.{actor_of, number_of}
use Rattle.group_directory.specs.Claiming.{IsShareOf}
use Rattle.group_directory.specs.Installing.{held_by}
use Rattle.group_view.specs.declared.claim.Claim.{Claim}
use Rattle.history_gate.specs.Histories.{entries_of}
use Rattle.session_pool.specs.declared.event.Event.{Event}
use Rattle.session_pool.specs.declared.event.Note.{Note}

-- the number of who made an event: a session's own, and a mover's after those of 64 sessions
abbrev pub number_in : Event → ℕ
number_in event = actor_of event.entry

-- the entries of events
abbrev pub entries_in : List Event → List Entry
entries_in events = map (λ (event : Event). event.entry) events

-- the events of a number
abbrev pub events_by : ℕ → List Event → List Event
events_by number events = entries_of number_in number events

-- ---- what was lent

-- the claim that was lent at a place of the log
abbrev pub note_at : List Note → ℕ → Option Claim
note_at [] place = None
note_at (note ∷ notes) place = if note.place == place then Some note.claim.value else note_at notes place

-- the events of entries that stand from a place of the log on
abbrev pub events_from : List Note → ℕ → List Entry → List Event
events_from notes place [] = []
events_from notes place (entry ∷ entries) = record { entry = entry; lent = note_at notes place } ∷ events_from notes (place + 1) entries

-- the events of a log
abbrev pub events_of : List Note → List Entry → List Event
events_of notes log = events_from notes 0 log

-- what the last of an actor's events lent to it; none where that ended a turn, or was one, or was no work
abbrev pub held_in : List Event → Option Claim
held_in events = fold (λ before (event : Event). event.lent) None events

-- a claim is held exactly where one is lent, and that is a share of it
abbrev pub IsLentAs : Option (Actor × Claim) → Option Claim → Type 0
IsLentAs None None = Unit {0}
IsLentAs None (Some lent) = ⊥
IsLentAs (Some held) None = ⊥
IsLentAs (Some held) (Some lent) = IsShareOf held.1 lent

-- the actor has a number of its own: it is a session below 65, or a mover from 1 on
abbrev pub IsNumbered : Actor → Type 0
IsNumbered (actor.Session session) = session < 65
IsNumbered (actor.Mover mover) = 1 ≤ mover

-- the claims are those that the events lent to such actors; no other actor holds one
pub record AreLent (claims : List (Actor × Claim)) (events : List Event) : Type 0 where
  pub lent : (by : Actor) → IsNumbered by → IsLentAs (held_by by claims) (held_in (events_by (number_of by) events))
  pub others : (by : Actor) → (IsNumbered by → ⊥) → held_by by claims ≡ None
