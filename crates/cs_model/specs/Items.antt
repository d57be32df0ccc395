-- The items of a SELECT.
use Rattle.std.specs.Prelude.{ℕ, ◌==◌, ℤ, pos, ◌+ℤ◌, int_div, Bool, true, false, not, ◌||◌, List, map, filter, fold, length, Option, Some, None, slice_get, if◌then◌else◌}
use Rattle.std.specs.Ordering.{is_lt, is_gt}
use Rattle.cs_types.specs.declared.ColumnType.{ColumnType}
use Rattle.cs_types.specs.declared.ColumnType.TheVariants.{TinyInt, SmallInt, Int, BigInt, Decimal, Date, VarChar}
use Rattle.cs_types.specs.declared.Column.{Column}
use Rattle.cs_types.specs.declared.Schema.{Schema}
use Rattle.cs_types.specs.declared.Value.{Value}
use Rattle.cs_types.specs.declared.Value.TheVariants as value
use Rattle.cs_types.specs.declared.Loose.{Loose}
use Rattle.cs_types.specs.declared.Loose.TheVariants.{Null, Number}
use Rattle.cs_types.specs.Kinds.{keeps_number}
use Rattle.cs_types.specs.Rows.{cell_at, number_in}
use Rattle.cs_types.specs.Values.{value_cmp}
use Rattle.cs_model.specs.declared.plan.Item.{Item}
use Rattle.cs_model.specs.declared.plan.Item.TheVariants as item
use Rattle.cs_model.specs.Cells.{loose_in}
use Rattle.cs_model.specs.Groups.{Group, place_of}

abbrev pub is_null : Value → Bool
is_null value.Null = true
is_null (value.Number n) = false
is_null (value.Text t) = false

-- the cells in a column that are not NULL
abbrev pub present : ℕ → List (List Value) → List Value
present column rows = filter (λ cell. not (is_null cell)) (map (λ row. cell_at row column) rows)

-- the whole sum of cells
abbrev pub sum_of : List Value → ℤ
sum_of = fold (λ sum cell. sum +ℤ number_in cell) (pos 0)

-- the least and the greatest of cells, NULL where there is none
abbrev pub lesser : Value → Value → Value
lesser a b = if is_null a || is_lt (value_cmp b a) then b else a

abbrev pub greater : Value → Value → Value
greater a b = if is_null a || is_gt (value_cmp b a) then b else a

abbrev pub least_of : List Value → Value
least_of = fold lesser value.Null

abbrev pub greatest_of : List Value → Value
greatest_of = fold greater value.Null

-- a value of an integer type that is shown, where a whole number is in the type's range; None is 8115
abbrev pub shown_if : ColumnType → ℤ → ℤ → Option Loose
shown_if kind whole shown = if keeps_number kind whole then Some (Number shown 0) else None

-- a value of the type of the sums of a column, where the whole sum is in its range: int for the integers up to int, bigint
-- for bigint, and decimals of 38 digits, which are never refused. Sums of dates and texts, which binding never lets through,
-- are NULL
abbrev pub of_sum : ColumnType → ℤ → ℤ → Option Loose
of_sum TinyInt whole shown = shown_if Int whole shown
of_sum SmallInt whole shown = shown_if Int whole shown
of_sum Int whole shown = shown_if Int whole shown
of_sum BigInt whole shown = shown_if BigInt whole shown
of_sum (Decimal p s) whole shown = Some (Number shown s)
of_sum Date whole shown = Some Null
of_sum (VarChar n) whole shown = Some Null

-- the same by a column that may not be there, which binding never lets through either
abbrev pub of_sum_in : Option Column → ℤ → ℤ → Option Loose
of_sum_in None whole shown = Some Null
of_sum_in (Some column) whole shown = of_sum column.kind whole shown

-- a count is int
abbrev pub count_of : ℕ → Option Loose
count_of count = shown_if Int (pos count) (pos count)

-- a sum is NULL where nothing is left
abbrev pub sum_in : Option Column → List Value → Option Loose
sum_in column cells = if length cells == 0 then Some Null else of_sum_in column (sum_of cells) (sum_of cells)

-- an average is the whole sum divided by the count, cut toward zero
abbrev pub average_in : Option Column → List Value → Option Loose
average_in column cells = if length cells == 0 then Some Null else of_sum_in column (sum_of cells) (int_div (sum_of cells) (pos (length cells)))

-- an item over the whole of a group, None where it is refused. A column shows the group's cell
abbrev pub group_item : Schema → List ℕ → Group → Item → Option Loose
group_item schema columns group (item.Column i) = Some (loose_in (slice_get schema.columns i) (cell_at group.0 (place_of columns i)))
group_item schema columns group item.CountAll = count_of (length group.1)
group_item schema columns group (item.Count i) = count_of (length (present i group.1))
group_item schema columns group (item.Sum i) = sum_in (slice_get schema.columns i) (present i group.1)
group_item schema columns group (item.Min i) = Some (loose_in (slice_get schema.columns i) (least_of (present i group.1)))
group_item schema columns group (item.Max i) = Some (loose_in (slice_get schema.columns i) (greatest_of (present i group.1)))
group_item schema columns group (item.Avg i) = average_in (slice_get schema.columns i) (present i group.1)

-- an item of a row in a query without groups, in which binding lets columns alone through
abbrev pub row_item : Schema → List Value → Item → Loose
row_item schema row (item.Column i) = loose_in (slice_get schema.columns i) (cell_at row i)
row_item schema row item.CountAll = Null
row_item schema row (item.Count i) = Null
row_item schema row (item.Sum i) = Null
row_item schema row (item.Min i) = Null
row_item schema row (item.Max i) = Null
row_item schema row (item.Avg i) = Null
