-- A row that fits its schema has a key.
use Rattle.std.proofs.Common.{◌≡◌, ℕ, zero, suc, ◌<◌, List, [], ◌∷◌, length, Option, Some, None, IsTrue, false, arith, refl}
use Rattle.std.specs.Prelude.{slice_get}
use Rattle.cs_types.specs.declared.ColumnType.{ColumnType}
use Rattle.cs_types.specs.declared.ColumnType.TheVariants.{TinyInt, SmallInt, Int, BigInt, Decimal, Date, VarChar}
use Rattle.cs_types.specs.declared.Column.{Column}
use Rattle.cs_types.specs.declared.Schema.{Schema}
use Rattle.cs_types.specs.declared.Value.{Value}
use Rattle.cs_types.specs.declared.Value.TheVariants.{Null, Number, Text}
use Rattle.cs_types.specs.Kinds.{is_short}
use Rattle.cs_types.specs.Rows.{cell_at, IsNumber}
use Rattle.cs_types.specs.Schemas.{is_key_kind, may_hold, IsSchema, IsRowOf}

-- no key is a text
pub no_text : (kind : ColumnType) (t : List ℕ) → IsTrue (is_key_kind kind) → IsTrue (is_short kind t) → ⊥
no_text TinyInt t key held = cc
no_text SmallInt t key held = cc
no_text Int t key held = cc
no_text BigInt t key held = cc
no_text (Decimal p s) t key held = cc
no_text Date t key held = cc
no_text (VarChar n) t key held = cc

number_held : (column : Column) (v : Value) → IsTrue (is_key_kind column.kind) → column.nullable ≡ false → IsTrue (may_hold column v) → IsNumber v
number_held column Null key never held = cc
number_held column (Number z) key never held = tt
number_held column (Text t) key never held = absurd (no_text column.kind t key held)

absent : {X : Type 0} (xs : List X) (i : ℕ) → i < length xs → slice_get xs i ≡ None → ⊥
absent [] i within none = omega arith
absent (x ∷ xs) zero within none = cc
absent (x ∷ xs) (suc i) within none = absent xs i (omega arith) none

there : (schema : Schema) (cells : List Value) (o : Option Column) → slice_get schema.columns schema.key ≡ o → IsSchema schema → IsRowOf schema cells → IsNumber (cell_at cells schema.key)
there schema cells (Some column) found is row =
    number_held column (cell_at cells schema.key) (is.key_kind column found) (is.key_never_null column found) (row.held schema.key column found)
there schema cells None found is row = absurd (absent schema.columns schema.key is.key_there found)

pub row_has_key : (schema : Schema) (cells : List Value) → IsSchema schema → IsRowOf schema cells → IsNumber (cell_at cells schema.key)
row_has_key schema cells is row = there schema cells (slice_get schema.columns schema.key) refl is row
