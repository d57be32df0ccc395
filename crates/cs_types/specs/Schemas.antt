-- Schemas, and the rows that fit them.
use Rattle.std.specs.Prelude.{◌≡◌, ℕ, ◌<◌, ◌≤◌, Bool, true, false, IsTrue, List, length, slice_get, Some}
use Rattle.cs_base.specs.Names.{same_name}
use Rattle.cs_types.specs.declared.ColumnType.{ColumnType}
use Rattle.cs_types.specs.declared.ColumnType.TheVariants.{TinyInt, SmallInt, Int, BigInt, Decimal, Date, VarChar}
use Rattle.cs_types.specs.declared.Column.{Column}
use Rattle.cs_types.specs.declared.Schema.{Schema}
use Rattle.cs_types.specs.declared.Value.{Value}
use Rattle.cs_types.specs.declared.Value.TheVariants.{Null, Number, Text}
use Rattle.cs_types.specs.Kinds.{IsColumnType, keeps_number, is_short}
use Rattle.cs_types.specs.Rows.{cell_at}

-- the types of keys: the integers and dates
abbrev pub is_key_kind : ColumnType → Bool
is_key_kind TinyInt = true
is_key_kind SmallInt = true
is_key_kind Int = true
is_key_kind BigInt = true
is_key_kind (Decimal p s) = false
is_key_kind Date = true
is_key_kind (VarChar n) = false

-- 1 to 32 columns of the product's types, no name twice, and a key column that is never NULL
pub record IsSchema (schema : Schema) : Type 0 where
  pub some : 1 ≤ length schema.columns
  pub few : length schema.columns ≤ 32
  pub kinds : (i : ℕ) (column : Column) → slice_get schema.columns i ≡ Some column → IsColumnType column.kind
  pub names : (i j : ℕ) (a b : Column) → i < j → slice_get schema.columns i ≡ Some a → slice_get schema.columns j ≡ Some b → same_name a.name b.name ≡ false
  pub key_there : schema.key < length schema.columns
  pub key_kind : (column : Column) → slice_get schema.columns schema.key ≡ Some column → IsTrue (is_key_kind column.kind)
  pub key_never_null : (column : Column) → slice_get schema.columns schema.key ≡ Some column → column.nullable ≡ false

-- a value may stand in a column, whatever bytes a text has
abbrev pub may_hold : Column → Value → Bool
may_hold column Null = column.nullable
may_hold column (Number z) = keeps_number column.kind z
may_hold column (Text t) = is_short column.kind t

-- a row fits a schema: no cell lies past the columns, and each column may hold its cell, NULL past the row's end
pub record IsRowOf (schema : Schema) (cells : List Value) : Type 0 where
  pub short : length cells ≤ length schema.columns
  pub held : (i : ℕ) (column : Column) → slice_get schema.columns i ≡ Some column → IsTrue (may_hold column (cell_at cells i))
