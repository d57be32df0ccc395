-- Rows of a table under their keys, and edits that a table may take.
use Rattle.std.specs.Prelude.{◌≡◌, List, length, All, IfSome, Option}
use Rattle.cs_types.specs.declared.Key.{Key}
use Rattle.cs_types.specs.declared.Schema.{Schema}
use Rattle.cs_types.specs.declared.Value.{Value}
use Rattle.cs_types.specs.Rows.{key_in}
use Rattle.cs_types.specs.Schemas.{IsRowOf}
use Rattle.cs_model.specs.Changes.{Edit, Table, Change}
use Rattle.cs_model.specs.Text.{IsPrintableKey}

-- a row of the table under its key: one that fits the schema, with the key in the key's column
pub record IsRowAt (schema : Schema) (key : Key) (cells : List Value) : Type 0 where
  pub row : IsRowOf schema cells
  pub under : key_in schema.key cells ≡ key

-- nothing may stand at a key, or a row of that key
abbrev pub MayStand : Schema → Key → Option (List Value) → Type 0
MayStand schema key row = IfSome row (IsRowAt schema key)

-- an edit of a key that can be printed, to nothing or to a row of that key
abbrev pub IsFit : Schema → Edit → Type 0
IsFit schema edit = IsPrintableKey schema edit.0 × MayStand schema edit.0 edit.1

-- a row under its key, which can be printed
abbrev pub IsFitEntry : Schema → Key × List Value → Type 0
IsFitEntry schema entry = IsPrintableKey schema entry.0 × IsRowAt schema entry.0 entry.1

-- a row has a cell for every column, as every row has that is written; a row may be shorter where columns were added later
abbrev pub IsWhole : Schema → Edit → Type 0
IsWhole schema edit = IfSome edit.1 (λ (row : List Value). length row ≡ length schema.columns)

-- each change's edit fits the table
abbrev pub AreFit : Schema → List Change → Type 0
AreFit schema changes = All (λ (change : Change). IsFit schema change.edit) changes

-- each row of the table fits it
abbrev pub IsFitTable : Schema → Table → Type 0
IsFitTable schema table = All (IsFitEntry schema) table
