-- Names and literals of a statement over a schema. A name that is no column, and any other fault of a statement, is refused
-- before what it is bound to is used; so the definitions take column 0 for such a name, and anything for other faults.
use Rattle.std.specs.Prelude.{ℕ, ℤ, pos, List, length, map, slice_get, unwrap_or, Bool, true, false, Option, None, Some, if◌then◌else◌}
use Rattle.std.specs.List.{range_with_len}
use Rattle.cs_types.specs.declared.Schema.{Schema}
use Rattle.cs_types.specs.declared.Column.{Column}
use Rattle.cs_types.specs.declared.ColumnType.{ColumnType}
use Rattle.cs_types.specs.declared.ColumnType.TheVariants as kinds
use Rattle.cs_types.specs.declared.Loose.{Loose}
use Rattle.cs_types.specs.declared.Loose.TheVariants as loose
use Rattle.cs_types.specs.Calendar.{date_of}
use Rattle.cs_types.specs.Kinds.{keeps_number}
use Rattle.tsql_trees.specs.declared.leaf.NameTree.{NameTree}
use Rattle.tsql_trees.specs.declared.leaf.NumberTree.{NumberTree}
use Rattle.tsql_trees.specs.declared.leaf.TextTree.{TextTree}
use Rattle.tsql_trees.specs.declared.pred.ConstTree.{ConstTree}
use Rattle.tsql_trees.specs.declared.pred.ConstTree.TheVariants as consts
use Rattle.bind_names.specs.Names.{column_named, trimmed, number_literal, signed_digits}

-- the number of a name's column
abbrev pub column_of : Schema → NameTree → ℕ
column_of schema name = unwrap_or (column_named schema name.bytes) 0

-- the columns of some names
abbrev pub columns_of : Schema → List NameTree → List ℕ
columns_of schema names = map (column_of schema) names

-- all columns in order
abbrev pub all_columns : Schema → List ℕ
all_columns schema = range_with_len 0 (length schema.columns)

abbrev pub is_date : ColumnType → Bool
is_date kinds.TinyInt = false
is_date kinds.SmallInt = false
is_date kinds.Int = false
is_date kinds.BigInt = false
is_date (kinds.Decimal p s) = false
is_date kinds.Date = true
is_date (kinds.VarChar n) = false

abbrev pub has_date : Option Column → Bool
has_date None = false
has_date (Some column) = is_date column.kind

abbrev pub is_date_column : Schema → ℕ → Bool
is_date_column schema column = has_date (slice_get schema.columns column)

-- a text literal, without its trailing spaces
abbrev pub text_literal : TextTree → Loose
text_literal text = loose.Text (trimmed text.bytes)

-- a literal of a predicate
abbrev pub const_of : ConstTree → Loose
const_of (consts.Number number) = number_literal number
const_of (consts.Text text) = text_literal text
const_of (consts.Null place) = loose.Null

-- a text with the day that it names, if it is a date
abbrev pub day_or_text : List ℕ → Option ℤ → Loose
day_or_text text None = loose.Text text
day_or_text text (Some day) = loose.Day day

-- a text that is a date is a day
abbrev pub as_day : Loose → Loose
as_day loose.Null = loose.Null
as_day (loose.Number m s) = loose.Number m s
as_day (loose.Text text) = day_or_text text (date_of text)
as_day (loose.Day day) = loose.Day day

-- a literal beside a column: a text that is a date is a day beside a date column
abbrev pub beside : Schema → ℕ → Loose → Loose
beside schema column value = if is_date_column schema column then as_day value else value

-- a number, and 0 in place of one outside bigint
abbrev pub in_bigint : ℤ → ℤ
in_bigint n = if keeps_number kinds.BigInt n then n else pos 0

-- the first or the last number of a series
abbrev pub series_end : NumberTree → ℤ
series_end number = in_bigint (signed_digits number.minus number.digits)
