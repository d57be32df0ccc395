-- What names mean where they stand, and which families of values go together.
use Rattle.std.specs.Prelude.{ℕ, List, [], codes, slice_get, Bool, true, false, is_none, Option, None, Some, option_map, if◌then◌else◌}
use Rattle.std.specs.List.{list_any}
use Rattle.std.specs.Option.{option_and_then}
use Rattle.cs_types.specs.declared.ColumnType.{ColumnType}
use Rattle.cs_types.specs.declared.ColumnType.TheVariants.{TinyInt, SmallInt, Int, BigInt, Decimal, Date, VarChar}
use Rattle.cs_types.specs.declared.Schema.{Schema}
use Rattle.tsql_trees.specs.declared.leaf.NameTree.{NameTree}
use Rattle.tsql_trees.specs.declared.leaf.TextTree.{TextTree}
use Rattle.cs_base.specs.Names.{same_name}
use Rattle.bind_names.specs.Names.{column_named, date_literal}
use Rattle.bind_faults.specs.declared.fault.Fault.{Fault}
use Rattle.bind_faults.specs.declared.family.Family.{Family}
use Rattle.bind_faults.specs.declared.family.Family.TheVariants as families
use Rattle.bind_faults.specs.declared.setting.Scope.{Scope}
use Rattle.bind_faults.specs.declared.setting.Scope.TheVariants as scopes
use Rattle.bind_faults.specs.Least.{fault_if}

-- ---- names

-- the type of the column with a number
abbrev pub kind_at : Schema → ℕ → Option ColumnType
kind_at schema i = option_map (λ c. c.kind) (slice_get schema.columns i)

-- the type of the column of a name
abbrev pub kind_named : Schema → List ℕ → Option ColumnType
kind_named schema name = option_and_then (kind_at schema) (column_named schema name)

-- the type of what a name means: nothing in VALUES; in a series only `value`, a bigint; elsewhere a column
abbrev pub kind_in : Schema → Scope → List ℕ → Option ColumnType
kind_in schema scopes.Row name = None
kind_in schema scopes.Series name = if same_name name (codes "value") then Some BigInt else None
kind_in schema scopes.Table name = kind_named schema name

-- 207: a name that means nothing
abbrev pub unknown : Option ColumnType → ℕ → List Fault
unknown kind at = fault_if (is_none kind) 207 at

-- 207: a name that is no column
abbrev pub unknown_column : Schema → NameTree → List Fault
unknown_column schema name = unknown (kind_named schema name.bytes) name.place

-- one of these names is the same
abbrev pub named_in : List NameTree → List ℕ → Bool
named_in names name = list_any (λ n. same_name n.bytes name) names

-- ---- families

abbrev pub kind_family : ColumnType → Family
kind_family TinyInt = families.Number
kind_family SmallInt = families.Number
kind_family Int = families.Number
kind_family BigInt = families.Number
kind_family (Decimal p s) = families.Number
kind_family Date = families.Date
kind_family (VarChar n) = families.Text

-- what has no type is of every family
abbrev pub family_of : Option ColumnType → Family
family_of None = families.Any
family_of (Some kind) = kind_family kind

-- two families that do not go together
abbrev pub differ : Family → Family → Bool
differ families.Any b = false
differ families.Number families.Any = false
differ families.Number families.Number = false
differ families.Number families.Date = true
differ families.Number families.Text = true
differ families.Date families.Any = false
differ families.Date families.Number = true
differ families.Date families.Date = false
differ families.Date families.Text = true
differ families.Text families.Any = false
differ families.Text families.Number = true
differ families.Text families.Date = true
differ families.Text families.Text = false

-- a text literal beside a date is a date
abbrev pub text_beside : Family → Family
text_beside families.Any = families.Text
text_beside families.Number = families.Text
text_beside families.Date = families.Date
text_beside families.Text = families.Text

-- 241: a text beside a date that is no date
abbrev pub day_faults : Family → TextTree → List Fault
day_faults families.Any t = []
day_faults families.Number t = []
day_faults families.Date t = fault_if (is_none (date_literal t.bytes)) 241 t.place
day_faults families.Text t = []
