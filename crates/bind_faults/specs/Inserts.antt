-- The faults of an INSERT.
use Rattle.std.specs.Prelude.{ℕ, ◌+◌, ◌-◌, ◌*◌, ◌^◌, nat_lt, ◌==◌, ℤ, pos, ◌+ℤ◌, int_lt, int_le, List, [], ◌∷◌, ◌++◌, length, slice_get, Bool, not, ◌||◌, Option, None, Some, if◌then◌else◌}
use Rattle.std.specs.List.{flat_map}
use Rattle.std.specs.Option.{option_and_then}
use Rattle.cs_types.specs.declared.ColumnType.{ColumnType}
use Rattle.cs_types.specs.declared.Schema.{Schema}
use Rattle.tsql_trees.specs.declared.leaf.NameTree.{NameTree}
use Rattle.tsql_trees.specs.declared.leaf.NumberTree.{NumberTree}
use Rattle.tsql_trees.specs.declared.expr.ExprTree.{ExprTree}
use Rattle.tsql_trees.specs.declared.statement.RowTree.{RowTree}
use Rattle.tsql_trees.specs.declared.statement.SeriesTree.{SeriesTree}
use Rattle.tsql_trees.specs.declared.statement.SourceTree.{SourceTree}
use Rattle.tsql_trees.specs.declared.statement.SourceTree.TheVariants as sources
use Rattle.bind_names.specs.Names.{signed_digits}
use Rattle.bind_faults.specs.declared.fault.Fault.{Fault}
use Rattle.bind_faults.specs.declared.setting.Scope.{Scope}
use Rattle.bind_faults.specs.declared.setting.Scope.TheVariants as scopes
use Rattle.bind_faults.specs.Least.{fault_if}
use Rattle.bind_faults.specs.Families.{kind_at, kind_named, unknown_column}
use Rattle.bind_faults.specs.Columns.{twice_faults}
use Rattle.bind_faults.specs.Values.{place_of, expr_faults}

-- ---- the columns that are named

-- 207: a name that is no column; 50001: a column named twice
abbrev pub columns_faults : Schema → List NameTree → List Fault
columns_faults schema names = flat_map (unknown_column schema) names ++ twice_faults schema names

abbrev pub named_faults : Schema → Option (List NameTree) → List Fault
named_faults schema None = []
named_faults schema (Some names) = columns_faults schema names

-- ---- the values

-- the type of the column of the value with a number: of the column with that number in the table, or of that name
abbrev pub target : Schema → Option (List NameTree) → ℕ → Option ColumnType
target schema None i = kind_at schema i
target schema (Some names) i = option_and_then (λ name. kind_named schema name.bytes) (slice_get names i)

-- the values from one with a number on
abbrev pub values_faults : Schema → Scope → Option (List NameTree) → ℕ → List ExprTree → List Fault
values_faults schema scope names i [] = []
values_faults schema scope names i (e ∷ rest) = expr_faults schema scope (target schema names i) e ++ values_faults schema scope names (i + 1) rest

-- 213: another number of values than of the table's columns; and where columns are named, fewer or more values than these
abbrev pub count_faults : Schema → Option (List NameTree) → ℕ → ℕ → ℕ → ℕ → List Fault
count_faults schema None fewer more at n = fault_if (not (n == length schema.columns)) 213 at
count_faults schema (Some names) fewer more at n =
    fault_if (nat_lt n (length names)) fewer at ++ fault_if (nat_lt (length names) n) more at

-- 109 and 110: fewer or more values in a row
abbrev pub row_faults : Schema → Option (List NameTree) → RowTree → List Fault
row_faults schema names row =
    count_faults schema names 109 110 row.place (length row.exprs) ++ values_faults schema scopes.Row names 0 row.exprs

-- ---- a series

-- the place of the first expression; the list is never empty
abbrev pub first_place : ℕ → List ExprTree → ℕ
first_place at [] = at
first_place at (e ∷ rest) = place_of e

-- a number in units of 10 ^ -18: no number has more than 18 digits after the point
abbrev pub units : NumberTree → ℤ
units n = signed_digits n.minus (n.digits * 10 ^ (18 - n.s))

-- the largest size of a bigint with this sign
abbrev pub largest : Bool → ℕ
largest minus = if minus then 9223372036854775808 else 9223372036854775807

-- 50001: a bound with a point or outside bigint
abbrev pub bound_faults : NumberTree → List Fault
bound_faults n = fault_if (n.point || nat_lt (largest n.minus) n.digits) 50001 n.place

-- a start above the stop, or more than 4,194,304 numbers
abbrev pub is_no_range : NumberTree → NumberTree → Bool
is_no_range start stop = int_lt (units stop) (units start) || int_le (units start +ℤ pos 4194304000000000000000000) (units stop)

-- 120 and 121: fewer or more expressions
abbrev pub series_faults : Schema → Option (List NameTree) → SeriesTree → List Fault
series_faults schema names s =
    count_faults schema names 120 121 (first_place s.place s.exprs) (length s.exprs)
    ++ values_faults schema scopes.Series names 0 s.exprs
    ++ fault_if (is_no_range s.start s.stop) 50001 s.place
    ++ bound_faults s.start
    ++ bound_faults s.stop

-- ---- all

abbrev pub source_faults : Schema → Option (List NameTree) → SourceTree → List Fault
source_faults schema names (sources.Values rows) = flat_map (row_faults schema names) rows
source_faults schema names (sources.Series series) = series_faults schema names series

abbrev pub insert_faults : Schema → Option (List NameTree) → SourceTree → List Fault
insert_faults schema names source = named_faults schema names ++ source_faults schema names source
