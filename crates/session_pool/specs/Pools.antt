-- What the type of a core after a gate keeps.
use Rattle.std.specs.Prelude.{◌≡◌, ◌<◌, ◌≤◌, ◌++◌, ℕ, List, [], ◌∷◌, length, All, Contains}
use Rattle.cs_types.specs.declared.Schema.{Schema}
use Rattle.cs_model.specs.declared.work.Actor.{Actor}
use Rattle.cs_model.specs.declared.work.Actor.TheVariants as actor
use Rattle.cs_model.specs.State.{begin_of}
use Rattle.group_book.specs.Commits.{Sizes}
use Rattle.script_reader.specs.declared.script.Step.{Step}
use Rattle.script_turns.specs.Turns.{AreMeant}
use Rattle.statement_core.specs.declared.movers.Turned.{Turned}
use Rattle.statement_core.specs.declared.movers.Turned.TheVariants.{Lent, Alone, Short, Idle}
use Rattle.statement_core.specs.CoreValue.{CoreValue}
use Rattle.session_pool.specs.declared.event.Event.{Event}
use Rattle.session_pool.specs.declared.event.Note.{Note}
use Rattle.session_pool.specs.Events.{AreLent}
use Rattle.session_pool.specs.Runs.{IsByMover, IsTurnAmong}

-- the actor is one of these sessions, or a mover from 1 to 8
abbrev pub IsOneOf : List ℕ → Actor → Type 0
IsOneOf sessions (actor.Session session) = Contains sessions session
IsOneOf sessions (actor.Mover mover) = (1 ≤ mover) × (mover ≤ 8)

-- the core is one of this table, these sizes and these sessions, who alone have turns and have numbers below 65; its movers are those
-- from 1 to 8; its actors hold what the events lent to them; and each Start is what its session's next line means
pub record IsPool (schema : Schema) (sizes : Sizes) (sessions : List ℕ) (lines : List Step) (core : CoreValue) (events : List Event) : Type 0 where
  pub schema_is : core.schema ≡ schema
  pub sizes_are : core.sizes ≡ sizes
  pub sessions_are : core.sessions ≡ sessions
  pub numbers : All (λ session. session < 65) sessions
  pub claims : AreLent core.claims events
  pub turns : All (IsTurnAmong sessions) core.log
  pub movers : All (IsByMover 8) core.log
  pub meant : AreMeant (begin_of schema) lines [] core.log

-- each note is of an entry of the log
abbrev pub AreNoted : List Note → CoreValue → Type 0
AreNoted notes core = All (λ (note : Note). note.place < length core.log) notes

-- what was lent is noted, at this place
abbrev pub IsNoted : Turned → ℕ → List Note → List Note → Type 0
IsNoted (Lent claim) place before after = (note : Note) × (after ≡ before ++ note ∷ []) × (note.place ≡ place) × (note.claim.value ≡ claim)
IsNoted Alone place before after = after ≡ before
IsNoted Short place before after = after ≡ before
IsNoted Idle place before after = after ≡ before
