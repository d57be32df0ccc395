-- Keys and rows of a table, where the rows fit it.
use Rattle.std.proofs.Common.{◌≡◌, ℕ, zero, suc, ◌<◌, List, [], ◌∷◌, length, refl, sym, subst, arith, false, IsTrue, All}
use Rattle.std.specs.Prelude.{Some, slice_get}
use Rattle.std.specs.Map.{values_of}
use Rattle.std.proofs.lemmas.List.Elements.{All-nil, All-cons}
use Rattle.cs_types.specs.declared.Column.{Column}
use Rattle.cs_types.specs.declared.Schema.{Schema}
use Rattle.cs_types.specs.declared.Value.{Value}
use Rattle.cs_types.specs.declared.Value.TheVariants.{Null, Number, Text}
use Rattle.cs_types.specs.Kinds.{keeps}
use Rattle.cs_types.specs.Rows.{cell_at, number_in, key_in}
use Rattle.cs_types.specs.Schemas.{IsSchema, IsRowOf, is_key_kind, may_hold}
use Rattle.cs_types.proofs.RowLemmas.{no_text}
use Rattle.cs_model.specs.Changes.{Table}
use Rattle.cs_model.specs.Held.{IsRowAt, IsFitTable}
use Rattle.cs_model.specs.Text.{kind_or, IsPrintableKey}

-- ---- keys

-- a value that the key's column holds is a number in its type's range
key_value : (column : Column) (v : Value) → IsTrue (is_key_kind column.kind) → column.nullable ≡ false → IsTrue (may_hold column v) → IsTrue (keeps column.kind (Number (number_in v)))
key_value column Null k never h = absurd (cc)
key_value column (Number z) k never h = h
key_value column (Text t) k never h = absurd (no_text column.kind t k h)

-- the column at a place that is there
pub column_at : (columns : List Column) (i : ℕ) → i < length columns → (column : Column) × (slice_get columns i ≡ Some column)
column_at [] i within = absurd (omega arith)
column_at (column ∷ columns) zero within = (column, refl)
column_at (column ∷ columns) (suc i) within = column_at columns i (omega arith)

-- the key of a row that fits can be printed
pub held_key : (schema : Schema) (row : List Value) → IsSchema schema → IsRowOf schema row → IsPrintableKey schema (key_in schema.key row)
held_key schema row is fits =
    let c = column_at schema.columns schema.key is.key_there in
    let held = key_value c.0 (cell_at row schema.key) (is.key_kind c.0 c.1) (is.key_never_null c.0 c.1) (fits.held schema.key c.0 c.1) in
    subst (λ o. IsTrue (keeps (kind_or o) (Number (key_in schema.key row).0))) (sym c.1) held

-- a row of the table under its own key
abbrev pub IsRow : Schema → List Value → Type 0
IsRow schema row = IsRowAt schema (key_in schema.key row) row

-- ---- rows

-- the rows of a table
pub table_held : (schema : Schema) (table : Table) → IsFitTable schema table → All (IsRowOf schema) (values_of table)
table_held schema [] fit = All-nil (IsRowOf schema)
table_held schema (entry ∷ table) fit = All-cons (IsRowOf schema) entry.1 (values_of table) (fit 0 entry (omega arith)).1.row (table_held schema table (λ k d lt. fit (suc k) d (omega arith)))
