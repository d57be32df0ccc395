-- The rows that own writes insert, and rows that come by columns.
use Rattle.std.specs.Prelude.{◌≡◌, ℕ, ℤ, List, map, length, All, Option}
use Rattle.std.specs.List.{flat_map}
use Rattle.std.specs.Option.{option_map, option_to_list}
use Rattle.std.specs.declared.alloc.Global.{Global}
use Rattle.std.specs.declared.vec.Vec.{Vec}
use Rattle.cs_types.specs.declared.Key.{Key}
use Rattle.cs_types.specs.declared.Schema.{Schema}
use Rattle.cs_types.specs.declared.Value.{Value}
use Rattle.cs_types.specs.Rows.{key_in}
use Rattle.cs_types.specs.Schemas.{IsRowOf}
use Rattle.cs_model.specs.Changes.{Edit}
use Rattle.cs_model.specs.Held.{MayStand}
use Rattle.batch_compute.specs.Columns.{AreColumnsOf}
use Rattle.row_group.specs.declared.packed.Packed.{Packed}
use Rattle.row_group.specs.Rows.{PackedRow, padded_row}
use Rattle.row_group.specs.Groups.{HoldsRows}

-- the rows that edits give, with their keys
abbrev pub rows_given : List Edit → List (Key × List Value)
rows_given edits = flat_map (λ (edit : Edit). option_to_list (option_map (λ (row : List Value). (edit.0, row)) edit.1)) edits

-- where the edit gives its key a row, this is one of the table under the key
abbrev pub FitsIn : Schema → Edit → Type 0
FitsIn schema edit = MayStand schema edit.0 edit.1

-- a row of a direct group: its cells in so many columns, with begin 0
abbrev pub direct_row : ℕ → Key × List Value → PackedRow
direct_row width entry = padded_row width entry.1 0

-- the group has the rows that the edits give, with base 0
abbrev pub IsDirectOf : Schema → List Edit → Packed → Type 0
IsDirectOf schema own group = HoldsRows schema (map (direct_row (length schema.columns)) (rows_given own)) 0 group

-- rows of the schema that have these columns and these keys
pub record AreRowsOf (schema : Schema) (keys : List Key) (columns : List (Vec (Option ℤ) Global)) (rows : List (List Value)) : Type 0 where
  pub fit : All (IsRowOf schema) rows
  pub held : AreColumnsOf (length schema.columns) rows columns
  pub keyed : keys ≡ map (key_in schema.key) rows
