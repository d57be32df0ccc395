-- The schema that a text means, and where a text that means none is refused.
use Rattle.std.specs.Prelude.{◌≡◌, ℕ, ◌+◌, ◌==◌, List, [], ◌∷◌, length, slice_get, Bool, not, ◌&&◌, ◌⊎◌, Result, Ok, Err, Option, None, Some, is_none}
use Rattle.std.specs.Option.{option_and_then}
use Rattle.tsql_trees.specs.declared.leaf.NumberTree.{NumberTree}
use Rattle.tsql_create.specs.declared.tree.CreateTree.{CreateTree}
use Rattle.tsql_trees.specs.declared.column.TypeTree.{TypeTree}
use Rattle.tsql_trees.specs.declared.column.TypeTree.TheVariants as types
use Rattle.tsql_trees.specs.declared.column.PlainType.{PlainType}
use Rattle.tsql_trees.specs.declared.column.PlainType.TheVariants as plain
use Rattle.tsql_create.specs.Creates.{IsCreate, IsNoCreate}
use Rattle.tsql_exprs.specs.declared.refusal.ReadRefusal.{ReadRefusal}
use Rattle.tsql_exprs.specs.declared.refusal.ReadRefusal.TheVariants as refusal
use Rattle.tsql_trees.specs.Tables.{table_name}
use Rattle.cs_types.specs.declared.ColumnType.{ColumnType}
use Rattle.cs_types.specs.declared.ColumnType.TheVariants as kinds
use Rattle.cs_types.specs.declared.Column.{Column}
use Rattle.cs_types.specs.declared.Schema.{Schema}
use Rattle.tsql_create.specs.declared.written.WrittenColumn.{WrittenColumn}
use Rattle.tsql_create.specs.declared.written.Written.{Written}
use Rattle.tsql_create.specs.Written.{columns, keys, key_index}
use Rattle.tsql_exprs.specs.Leftmost.{leftmost}
use Rattle.tsql_create.specs.Faults.{faults}

abbrev pub plain_type : PlainType → ColumnType
plain_type plain.TinyInt = kinds.TinyInt
plain_type plain.SmallInt = kinds.SmallInt
plain_type plain.Int = kinds.Int
plain_type plain.BigInt = kinds.BigInt
plain_type plain.Date = kinds.Date

abbrev pub decimal_type : NumberTree → Option NumberTree → ColumnType
decimal_type p None = kinds.Decimal p.digits 0
decimal_type p (Some s) = kinds.Decimal p.digits s.digits

-- decimal alone has 18 digits and none after the point, decimal(p) none after the point, varchar alone one byte
abbrev pub column_type : TypeTree → ColumnType
column_type (types.Plain place kind) = plain_type kind
column_type (types.Decimal place None) = kinds.Decimal 18 0
column_type (types.Decimal place (Some (p, scale))) = decimal_type p scale
column_type (types.VarChar place None) = kinds.VarChar 1
column_type (types.VarChar place (Some n)) = kinds.VarChar n.digits

-- a column may be NULL where nothing else is written; the key never is
abbrev pub column_of : Bool → WrittenColumn → Column
column_of is_key c = record { name = c.name.bytes; kind = column_type c.kind; nullable = not is_key && is_none c.not_null }

abbrev pub columns_from : ℕ → ℕ → List WrittenColumn → List Column
columns_from key i [] = []
columns_from key i (c ∷ rest) = column_of (i == key) c ∷ columns_from key (i + 1) rest

abbrev pub schema_of : CreateTree → ℕ → Schema
schema_of tree key = record { name = table_name tree.table; columns = columns_from key 0 (columns tree.parts); key = key }

-- the number of the key's column; the key is the first one that is written
abbrev pub key_of : CreateTree → Option ℕ
key_of tree = option_and_then (key_index (columns tree.parts)) (slice_get (keys 0 tree.parts) 0)

-- a setup statement without faults, of a text of so many bytes, means a schema
abbrev pub Means : ℕ → CreateTree → Schema → Type 0
Means size tree schema = (faults size tree ≡ []) × ((key : ℕ) × (key_of tree ≡ Some key) × (schema ≡ schema_of tree key))

-- a text means a schema
abbrev pub IsTable : List ℕ → Schema → Type 0
IsTable text schema = (tree : CreateTree) × IsCreate text tree × Means (length text) tree schema

-- a setup statement is refused at its leftmost fault
abbrev pub IsFaulty : ℕ → CreateTree → ℕ → ℕ → Type 0
IsFaulty size tree number at = (number ≡ 50001) × (leftmost (faults size tree) ≡ Some at)

-- a text is refused as no setup statement, and else at the leftmost fault
abbrev pub IsNoTable : List ℕ → ℕ → ℕ → Type 0
IsNoTable text number at = IsNoCreate text number at
    ⊎ ((tree : CreateTree) × IsCreate text tree × IsFaulty (length text) tree number at)

-- a refusal is one of the text's
abbrev pub RefusesTable : List ℕ → ReadRefusal → Type 0
RefusesTable text (refusal.At number at) = IsNoTable text number at
RefusesTable text refusal.Memory = Unit {0}

-- ---- how it is found

abbrev pub JudgedTable : ℕ → CreateTree → ReadRefusal → Type 0
JudgedTable size tree (refusal.At number at) = IsFaulty size tree number at
JudgedTable size tree refusal.Memory = Unit {0}

abbrev pub JudgesTable : ℕ → CreateTree → Result Schema ReadRefusal → Type 0
JudgesTable size tree (Ok schema) = Means size tree schema
JudgesTable size tree (Err e) = JudgedTable size tree e

-- the columns and the keys are those of a tree
abbrev pub IsWrittenBy : CreateTree → Written → Type 0
IsWrittenBy tree written = (written.columns ≡ columns tree.parts) × (written.keys ≡ keys 0 tree.parts)
