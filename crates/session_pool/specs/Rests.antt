-- What passes have when the threads of sessions and movers have been joined.
use Rattle.std.specs.Prelude.{◌≡◌, ◌≤◌, ◌+◌, ◌==◌, not, ℕ, Bool, true, List, filter, All, Contains, None}
use Rattle.cs_types.specs.declared.Schema.{Schema}
use Rattle.history_gate.specs.Histories.{own_numbers}
use Rattle.script_reader.specs.declared.script.Mode.TheVariants.{Run}
use Rattle.script_reader.specs.declared.script.Script.{Script}
use Rattle.script_reader.specs.declared.script.Step.{Step}
use Rattle.script_reader.specs.Scripts.{allows, IsRunnable}
use Rattle.session_pool.specs.declared.event.Event.{Event}
use Rattle.session_pool.specs.Events.{entries_in, events_by, held_in, number_in}
use Rattle.session_pool.specs.Runs.{IsSessionRun}

-- the script has this table, these sessions and these lines, and sessions that run side by side can run it
pub record IsScriptOf (schema : Schema) (sessions : List ℕ) (lines : List Step) (script : Script) : Type 0 where
  pub schema_is : schema ≡ script.schema
  pub sessions_are : sessions ≡ script.sessions
  pub lines_are : lines ≡ script.lines
  pub runnable : IsRunnable script
  pub whole : All (λ step. allows Run step ≡ true) script.lines

-- the lists of all numbers but one
abbrev pub lists_but : ℕ → List (ℕ × List Event) → List (ℕ × List Event)
lists_but n own = filter (λ list. not (list.0 == n)) own

-- the list is of the caller, of a session, or of a mover from 1 to so many, who holds no claim after it
abbrev pub IsRested : ℕ → ℕ × List Event → Type 0
IsRested movers list = (list.0 ≤ 64 + movers) × (held_in list.1 ≡ None)

-- a session has a list, of all its turns or of the first of them
abbrev pub HasRun : List Step → Bool → List (ℕ × List Event) → ℕ → Type 0
HasRun lines done own session = (events : List Event) × Contains own (session, events) × IsSessionRun session lines done (entries_in events)

-- all numbers of the first have a list in the second
abbrev pub KeepsOwn : List (ℕ × List Event) → List (ℕ × List Event) → Type 0
KeepsOwn before after = (n : ℕ) → Contains (own_numbers before) n → Contains (own_numbers after) n

-- the events of a run that has come to rest: no actor holds a claim, they are those of sessions and of movers from 1 to so many, and
-- each session has its turns, all or the first of them
pub record AreAtRest (sessions : List ℕ) (lines : List Step) (movers : ℕ) (done : Bool) (events : List Event) : Type 0 where
  pub free : (number : ℕ) → held_in (events_by number events) ≡ None
  pub numbers : All (λ event. number_in event ≤ 64 + movers) events
  pub runs : (session : ℕ) → Contains sessions session → IsSessionRun session lines done (entries_in (events_by session events))
