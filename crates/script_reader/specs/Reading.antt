-- A script, line by line.
use Rattle.std.specs.Prelude.{◌≡◌, ℕ, ◌≤◌, ◌<◌, List, [], ◌∷◌, length, Bool, false, slice_index_or, Option, None, Some}
use Rattle.cs_types.specs.declared.Schema.{Schema}
use Rattle.cs_types.specs.Schemas.{IsSchema}
use Rattle.cs_model.specs.declared.work.Actor.{Actor}
use Rattle.cs_model.specs.declared.work.Actor.TheVariants.{Session, Mover}
use Rattle.tsql_create.specs.Tables.{IsTable, IsNoTable}
use Rattle.script_reader.specs.declared.form.Form.{Form}
use Rattle.script_reader.specs.declared.form.Form.TheVariants.{Skipped, Setup, Ask, Other}
use Rattle.script_reader.specs.declared.read.HalfDone.{HalfDone}
use Rattle.script_reader.specs.declared.read.Reading.{Reading}
use Rattle.script_reader.specs.declared.script.Mode.{Mode}
use Rattle.script_reader.specs.declared.script.Step.{Step}
use Rattle.script_reader.specs.declared.script.ScriptRefusal.{ScriptRefusal}
use Rattle.script_reader.specs.declared.script.ScriptRefusal.TheVariants.{Bad, Memory}
use Rattle.script_reader.specs.Scripts.{half_done, taken_by, text_of, setups, steps_of, AreGood, IsGood, IsBad}

-- each text of the form has at most so many bytes
abbrev pub IsShort : ℕ → Form → Type 0
IsShort most (Setup text) = length text ≤ most
IsShort most (Ask step) = length (text_of step) ≤ most
IsShort most Skipped = Unit {0}
IsShort most Other = Unit {0}

-- there is a place for the actor
abbrev pub HasPlace : Actor → Type 0
HasPlace (Session n) = n < 65
HasPlace (Mover n) = n < 9

-- the actor of the form's step has a place
abbrev pub IsPlaced : Form → Type 0
IsPlaced (Ask step) = HasPlace (taken_by step)
IsPlaced (Setup text) = Unit {0}
IsPlaced Skipped = Unit {0}
IsPlaced Other = Unit {0}

-- each place, by the actors' numbers, says whether its actor has something half done after these steps
abbrev pub AreMarkedFor : (ℕ → Actor) → ℕ → List Bool → List Step → Type 0
AreMarkedFor actor places marks steps = (length marks ≡ places) × ((n : ℕ) → n < places → slice_index_or marks n false ≡ half_done (actor n) steps)

pub record AreMarked (marks : HalfDone) (steps : List Step) : Type 0 where
  pub sessions : AreMarkedFor Session 65 marks.sessions steps
  pub movers : AreMarkedFor Mover 9 marks.movers steps

-- the table of a setup statement, and of no other
pub record IsOnlyTable (text : List ℕ) (schema : Schema) : Type 0 where
  pub table : IsTable text schema
  pub only : (other : Schema) → IsTable text other → schema ≡ other
  pub valid : IsSchema schema

-- the table that the lines set up
abbrev pub IsSetUp : List (List ℕ) → Option Schema → Type 0
IsSetUp [] None = Unit {0}
IsSetUp [] (Some schema) = ⊥
IsSetUp (text ∷ []) None = ⊥
IsSetUp (text ∷ []) (Some schema) = IsOnlyTable text schema
IsSetUp (text ∷ next ∷ texts) schema = ⊥

-- what these lines, which are good for the mode, say
pub record IsRead (mode : Mode) (lines : List (List ℕ)) (reading : Reading) : Type 0 where
  pub good : AreGood mode [] lines
  pub setup : IsSetUp (setups lines) reading.schema
  pub steps : reading.lines ≡ steps_of lines
  pub marked : AreMarked reading.half_done reading.lines

-- why the n-th line, after these, is refused
abbrev pub RefusesLine : Mode → List (List ℕ) → List ℕ → ℕ → ScriptRefusal → Type 0
RefusesLine mode before line n (Bad at reason number) = (at ≡ n) × IsBad mode before line reason number × (IsGood mode before line → ⊥)
RefusesLine mode before line n Memory = Unit {0}

-- the error of a setup statement in the n-th line that is refused
abbrev pub RefusesSetup : List ℕ → ℕ → ScriptRefusal → Type 0
RefusesSetup text n (Bad line reason number) = (line ≡ n) × (reason ≡ 8) × ((at : ℕ) × IsNoTable text number at) × ((schema : Schema) → IsTable text schema → ⊥)
RefusesSetup text n Memory = Unit {0}
