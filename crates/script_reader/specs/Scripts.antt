-- What a script says: its table and its steps, or its first bad line.
use Rattle.std.specs.Prelude.{◌≡◌, ℕ, zero, suc, ◌+◌, ◌≤◌, List, [], ◌∷◌, ◌++◌, length, filter, Bool, true, false, not, ◌&&◌, nat_le, if◌then◌else◌, All, Contains, Option, None, Some}
use Rattle.std.specs.List.{list_any, filter_map, last_or}
use Rattle.std.specs.Option.{option_or}
use Rattle.cs_types.specs.declared.Schema.{Schema}
use Rattle.cs_types.specs.Schemas.{IsSchema}
use Rattle.cs_model.specs.declared.work.Actor.{Actor}
use Rattle.cs_model.specs.declared.work.Actor.TheVariants.{Session, Mover}
use Rattle.group_book.specs.Turns.{same_actor}
use Rattle.tsql_create.specs.Tables.{IsTable, IsNoTable}
use Rattle.script_reader.specs.Lines.{lines, line_reason, form_of}
use Rattle.script_reader.specs.declared.form.Form.{Form}
use Rattle.script_reader.specs.declared.form.Form.TheVariants.{Skipped, Setup, Ask, Other}
use Rattle.script_reader.specs.declared.script.Mode.{Mode}
use Rattle.script_reader.specs.declared.script.Mode.TheVariants.{Replay, Run}
use Rattle.script_reader.specs.declared.script.Script.{Script}
use Rattle.script_reader.specs.declared.script.Step.{Step}
use Rattle.script_reader.specs.declared.script.Step.TheVariants.{Whole, Begun, Finished, Turn, Claiming, Installing}
use Rattle.script_reader.specs.declared.script.ScriptRefusal.{ScriptRefusal}
use Rattle.script_reader.specs.declared.script.ScriptRefusal.TheVariants.{Bad, Memory}

-- ---- the steps

-- who takes a step: a session or a mover
abbrev pub taken_by : Step → Actor
taken_by (Whole session text) = Session session
taken_by (Begun session text) = Session session
taken_by (Finished session) = Session session
taken_by (Turn mover) = Mover mover
taken_by (Claiming mover) = Mover mover
taken_by (Installing mover) = Mover mover

abbrev pub is_by : Actor → Step → Bool
is_by actor step = same_actor (taken_by step) actor

-- the text of a step's statement; a finish and the steps of movers have none
abbrev pub text_of : Step → List ℕ
text_of (Whole session text) = text
text_of (Begun session text) = text
text_of (Finished session) = []
text_of (Turn mover) = []
text_of (Claiming mover) = []
text_of (Installing mover) = []

-- so many numbers from one on
abbrev pub numbers : ℕ → ℕ → List ℕ
numbers from zero = []
numbers from (suc n) = from ∷ numbers (from + 1) n

-- a line names the session
abbrev pub is_named : List Step → ℕ → Bool
is_named steps session = list_any (is_by (Session session)) steps

-- the sessions that the lines name, each once, in the order of their numbers from 1 to 64
unfoldable pub sessions_of : List Step → List ℕ
sessions_of steps = filter (is_named steps) (numbers 1 64)

-- ---- what is half done

-- a step starts a statement alone, or takes the first event of a turn alone
abbrev pub is_begun : Option Step → Bool
is_begun None = false
is_begun (Some (Whole session text)) = false
is_begun (Some (Begun session text)) = true
is_begun (Some (Finished session)) = false
is_begun (Some (Turn mover)) = false
is_begun (Some (Claiming mover)) = true
is_begun (Some (Installing mover)) = false

-- a session has a statement half done after these steps, or a mover a turn: its last step begins one alone
unfoldable pub half_done : Actor → List Step → Bool
half_done actor steps = is_begun (last_or None (filter (is_by actor) steps))

-- an actor begins a statement or a turn where it has none half done, and finishes one where it has
abbrev pub may_follow : List Step → Step → Bool
may_follow before (Whole session text) = not (half_done (Session session) before)
may_follow before (Begun session text) = not (half_done (Session session) before)
may_follow before (Finished session) = half_done (Session session) before
may_follow before (Turn mover) = not (half_done (Mover mover) before)
may_follow before (Claiming mover) = not (half_done (Mover mover) before)
may_follow before (Installing mover) = half_done (Mover mover) before

-- each of the steps may follow those before it, and after the last nothing is half done
abbrev pub ArePaired : List Step → List Step → Type 0
ArePaired before [] = (actor : Actor) → half_done actor before ≡ false
ArePaired before (step ∷ steps) = (may_follow before step ≡ true) × ArePaired (before ++ step ∷ []) steps

-- ---- the lines

abbrev pub setup_in : Form → Option (List ℕ)
setup_in (Setup text) = Some text
setup_in Skipped = None
setup_in (Ask step) = None
setup_in Other = None

-- the setup statements of the lines
abbrev pub setups : List (List ℕ) → List (List ℕ)
setups lines = filter_map (λ line. setup_in (form_of line)) lines

abbrev pub step_in : Form → Option Step
step_in (Ask step) = Some step
step_in Skipped = None
step_in (Setup text) = None
step_in Other = None

-- the steps of the lines, in order
abbrev pub steps_of : List (List ℕ) → List Step
steps_of lines = filter_map (λ line. step_in (form_of line)) lines

-- ---- bad lines

-- an actor of scripts: a session 1 to 64, or a mover 1 to 8
abbrev pub is_actor : Actor → Bool
is_actor (Session n) = nat_le 1 n && nat_le n 64
is_actor (Mover n) = nat_le 1 n && nat_le n 8

-- a mode has a step: replay has each, and a run only the whole statements of sessions
abbrev pub allows : Mode → Step → Bool
allows Replay step = true
allows Run (Whole session text) = true
allows Run (Begun session text) = false
allows Run (Finished session) = false
allows Run (Turn mover) = false
allows Run (Claiming mover) = false
allows Run (Installing mover) = false

-- why a step is bad after these: one that the mode does not have (reason 3), of another actor (reason 4), or no step that may
-- follow (reason 7)
abbrev pub step_reason : Mode → List Step → Step → Option ℕ
step_reason mode before step = if not (allows mode step) then Some 3 else (if not (is_actor (taken_by step)) then Some 4 else (if may_follow before step then None else Some 7))

-- why a line is bad for its form: no form (reason 1), a second setup line, or a step before the first one (reason 2), or a
-- bad step
abbrev pub form_reason : Mode → List (List ℕ) → List Step → Form → Option ℕ
form_reason mode setups before Other = Some 1
form_reason mode setups before Skipped = None
form_reason mode [] before (Setup text) = None
form_reason mode (setup ∷ setups) before (Setup text) = Some 2
form_reason mode [] before (Ask step) = Some 2
form_reason mode (setup ∷ setups) before (Ask step) = step_reason mode before step

-- why a line is bad after the lines before it, but for a setup statement that is refused
abbrev pub reason_behind : Mode → List (List ℕ) → List ℕ → Option ℕ
reason_behind mode before line = option_or (line_reason line) (form_reason mode (setups before) (steps_of before) (form_of line))

abbrev pub HasTable : Form → Type 0
HasTable (Setup text) = (schema : Schema) × IsTable text schema
HasTable Skipped = Unit {0}
HasTable (Ask step) = Unit {0}
HasTable Other = Unit {0}

-- a line is good after the lines before it: it has no reason to be bad, and its setup statement, if it has one, is a table's
abbrev pub IsGood : Mode → List (List ℕ) → List ℕ → Type 0
IsGood mode before line = (reason_behind mode before line ≡ None) × HasTable (form_of line)

-- each of the lines is good after those before it
abbrev pub AreGood : Mode → List (List ℕ) → List (List ℕ) → Type 0
AreGood mode before [] = Unit {0}
AreGood mode before (line ∷ lines) = IsGood mode before line × AreGood mode (before ++ line ∷ []) lines

-- ---- the script

-- for this mode each line is good, one sets up the table, the others give the steps, and nothing is left half done
pub record IsScript (mode : Mode) (bytes : List ℕ) (script : Script) : Type 0 where
  pub good : AreGood mode [] (lines bytes)
  pub text : List ℕ
  pub setup : setups (lines bytes) ≡ text ∷ []
  pub table : IsTable text script.schema
  pub steps : script.lines ≡ steps_of (lines bytes)
  pub finished : (actor : Actor) → half_done actor script.lines ≡ false
  pub sessions : script.sessions ≡ sessions_of script.lines

-- why a line is bad after the lines before it, and the error number of a refused setup statement (reason 8), else 0
pub data IsBad (mode : Mode) (before : List (List ℕ)) (line : List ℕ) : ℕ → ℕ → Type 0 where
  by_reason : {reason : ℕ} → reason_behind mode before line ≡ Some reason → IsBad mode before line reason 0
  by_setup : (text : List ℕ) (at : ℕ) {number : ℕ} → reason_behind mode before line ≡ None → form_of line ≡ Setup text → IsNoTable text number at → IsBad mode before line 8 number

-- the first bad line of these bytes, counted from 1, and why it is bad. The line after the last is bad where no line is a
-- setup line (reason 2), or a statement or a turn is left half done (reason 7)
pub data IsBadLine (mode : Mode) (bytes : List ℕ) : ℕ → ℕ → ℕ → Type 0 where
  bad_line : (before others : List (List ℕ)) (line : List ℕ) {reason number : ℕ} → lines bytes ≡ before ++ line ∷ others → AreGood mode [] before → IsBad mode before line reason number → IsBadLine mode bytes (length before + 1) reason number
  no_setup : AreGood mode [] (lines bytes) → setups (lines bytes) ≡ [] → IsBadLine mode bytes (length (lines bytes) + 1) 2 0
  left_half_done : (actor : Actor) → AreGood mode [] (lines bytes) → half_done actor (steps_of (lines bytes)) ≡ true → IsBadLine mode bytes (length (lines bytes) + 1) 7 0

-- a refusal is the first bad line, and want of memory may come anywhere
abbrev pub RefusesScript : Mode → List ℕ → ScriptRefusal → Type 0
RefusesScript mode bytes (Bad line reason number) = IsBadLine mode bytes line reason number
RefusesScript mode bytes Memory = Unit {0}

-- the actor is one of these sessions, each 1 to 64, or a mover 1 to 8
abbrev pub IsServed : List ℕ → Actor → Type 0
IsServed sessions (Session n) = (1 ≤ n) × (n ≤ 64) × Contains sessions n
IsServed sessions (Mover n) = (1 ≤ n) × (n ≤ 8)

-- what a script that was read can be run by: a schema that may be, texts that can be read, the sessions of its steps, and
-- each statement and turn that is begun finished before its actor's next one and before the end
pub record IsRunnable (script : Script) : Type 0 where
  pub schema : IsSchema script.schema
  pub short : All (λ step. length (text_of step) ≤ 65536) script.lines
  pub sessions : script.sessions ≡ sessions_of script.lines
  pub range : All (λ step. IsServed script.sessions (taken_by step)) script.lines
  pub paired : ArePaired [] script.lines
