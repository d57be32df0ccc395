-- Which turns the sessions of a script have in a log, in whatever order they take them.
use Rattle.std.specs.Prelude.{◌≡◌, ◌⊎◌, ℕ, zero, suc, List, [], ◌∷◌, ◌++◌, length, slice_get, ◌==◌, if◌then◌else◌, Contains, Option, None, Some}
use Rattle.std.specs.List.{filter_map}
use Rattle.cs_types.specs.declared.Schema.{Schema}
use Rattle.cs_model.specs.declared.entry.Bound.{Bound}
use Rattle.cs_model.specs.declared.entry.Bound.TheVariants.{Refused}
use Rattle.cs_model.specs.declared.entry.Refusal.TheVariants.{Memory}
use Rattle.cs_model.specs.declared.entry.Entry.{Entry}
use Rattle.cs_model.specs.declared.entry.Entry.TheVariants.{Start, Finish, End, Mover}
use Rattle.cs_model.specs.Actors.{turns_of}
use Rattle.cs_model.specs.State.{State, Begin, schema_now}
use Rattle.cs_model.specs.Steps.{Legal}
use Rattle.cs_model.specs.Text.{statements_of}
use Rattle.script_reader.specs.declared.script.Script.{Script}
use Rattle.script_reader.specs.declared.script.Step.{Step}
use Rattle.script_reader.specs.declared.script.Step.TheVariants.{Whole, Begun, Finished, Turn, Claiming, Installing}
use Rattle.script_turns.specs.Texts.{Means}

-- ---- one statement

-- what a statement is bound to: what its text means, or a refusal for want of memory
abbrev pub IsBound : Schema → List ℕ → Bound → Type 0
IsBound schema text bound = Means schema text bound ⊎ (bound ≡ Refused Memory)

-- the same after this log, where it is legal, by the schema that it leads to
abbrev pub IsBoundAfter : Begin → List Entry → List ℕ → Bound → Type 0
IsBoundAfter begin before text bound = (m : State) → Legal begin before m → IsBound (schema_now begin m) text bound

-- the Start of a statement with this text, after this log
abbrev pub IsStart : Begin → List Entry → ℕ → List ℕ → Entry → Type 0
IsStart begin before session text (Start s bound short) = (s ≡ session) × IsBoundAfter begin before text bound.value
IsStart begin before session text (Finish s reply) = ⊥
IsStart begin before session text (End s) = ⊥
IsStart begin before session text (Mover actor work) = ⊥

abbrev pub IsFinishOf : ℕ → Entry → Type 0
IsFinishOf session (Start s bound short) = ⊥
IsFinishOf session (Finish s reply) = s ≡ session
IsFinishOf session (End s) = ⊥
IsFinishOf session (Mover actor work) = ⊥

-- ---- session by session

-- the text of a statement that a session starts in this step
abbrev pub started_in : ℕ → Step → Option (List ℕ)
started_in session (Whole s text) = if s == session then Some text else None
started_in session (Begun s text) = if s == session then Some text else None
started_in session (Finished s) = None
started_in session (Turn mover) = None
started_in session (Claiming mover) = None
started_in session (Installing mover) = None

-- the texts of a session's statements, in order
abbrev pub texts_of : ℕ → List Step → List (List ℕ)
texts_of session steps = filter_map (started_in session) steps

abbrev pub IsStartIn : ℕ → Entry → Type 0
IsStartIn session (Start s bound short) = s ≡ session
IsStartIn session (Finish s reply) = ⊥
IsStartIn session (End s) = ⊥
IsStartIn session (Mover actor work) = ⊥

-- Start and Finish of so many statements, one after the other, and then the End
abbrev pub AreTurns : ℕ → ℕ → List Entry → Type 0
AreTurns session zero turns = turns ≡ End session ∷ []
AreTurns session (suc n) turns =
    (a : Entry) × (b : Entry) × (others : List Entry) × (turns ≡ a ∷ b ∷ others) × IsStartIn session a × IsFinishOf session b × AreTurns session n others

-- a Start's statement is what its session's next text means
abbrev pub IsMeant : Begin → List Step → List Entry → Entry → Type 0
IsMeant begin steps before (Start session bound short) =
    (text : List ℕ) × (slice_get (texts_of session steps) (statements_of session before) ≡ Some text) × IsBoundAfter begin before text bound.value
IsMeant begin steps before (Finish session reply) = Unit {0}
IsMeant begin steps before (End session) = Unit {0}
IsMeant begin steps before (Mover actor work) = Unit {0}

-- each Start of these entries, which come after those before, is meant
abbrev pub AreMeant : Begin → List Step → List Entry → List Entry → Type 0
AreMeant begin steps before [] = Unit {0}
AreMeant begin steps before (entry ∷ entries) = IsMeant begin steps before entry × AreMeant begin steps (before ++ entry ∷ []) entries

-- each session of the script has its statements' turns once and in order, and then its End; no other session has a turn; and
-- each statement is what its text means
pub record Turns (begin : Begin) (script : Script) (log : List Entry) : Type 0 where
  pub each : (session : ℕ) → Contains script.sessions session → AreTurns session (length (texts_of session script.lines)) (turns_of session log)
  pub none : (session : ℕ) → (Contains script.sessions session → ⊥) → turns_of session log ≡ []
  pub meant : AreMeant begin script.lines [] log

-- the same of a run that stopped: each session's turns are the first of those that it is to have
pub record FrontTurns (begin : Begin) (script : Script) (log : List Entry) : Type 0 where
  pub each : (session : ℕ) → Contains script.sessions session → (rest : List Entry) × AreTurns session (length (texts_of session script.lines)) (turns_of session log ++ rest)
  pub none : (session : ℕ) → (Contains script.sessions session → ⊥) → turns_of session log ≡ []
  pub meant : AreMeant begin script.lines [] log
