-- What is counted of rows for the items of a SELECT.
use Rattle.std.specs.Prelude.{ℕ, ◌+◌, ◌==◌, ℤ, pos, ◌+ℤ◌, int_div, List, [], ◌∷◌, length, slice_get, Option, Some, if◌then◌else◌}
use Rattle.cs_types.specs.declared.Schema.{Schema}
use Rattle.cs_types.specs.declared.Value.{Value}
use Rattle.cs_types.specs.declared.Value.TheVariants as value
use Rattle.cs_types.specs.declared.Loose.{Loose}
use Rattle.cs_types.specs.declared.Loose.TheVariants.{Null}
use Rattle.cs_types.specs.Rows.{cell_at}
use Rattle.cs_model.specs.declared.plan.Item.{Item}
use Rattle.cs_model.specs.declared.plan.Item.TheVariants as item
use Rattle.cs_model.specs.Cells.{loose_in}
use Rattle.cs_model.specs.Groups.{place_of}
use Rattle.cs_model.specs.Items.{is_null, present, sum_of, least_of, greatest_of, lesser, greater, count_of, of_sum_in}
use Rattle.batch_aggregate.specs.declared.tally.Tally.{Tally}
use Rattle.batch_aggregate.specs.declared.tally.Tally.TheVariants.{Nothing, Count, Sum, Least, Greatest}

-- the tally of an item over rows: what the item shows, before it is judged. A column shows the group's cell
abbrev pub tally_of : List (List Value) → Item → Tally
tally_of rows (item.Column i) = Nothing
tally_of rows item.CountAll = Count (length rows)
tally_of rows (item.Count i) = Count (length (present i rows))
tally_of rows (item.Sum i) = Sum (length (present i rows), sum_of (present i rows))
tally_of rows (item.Min i) = Least (least_of (present i rows))
tally_of rows (item.Max i) = Greatest (greatest_of (present i rows))
tally_of rows (item.Avg i) = Sum (length (present i rows), sum_of (present i rows))

-- what a tally counts, sums up, or keeps; in a tally of another kind nothing
abbrev pub count_in : Tally → ℕ
count_in Nothing = 0
count_in (Count count) = count
count_in (Sum total) = 0
count_in (Least cell) = 0
count_in (Greatest cell) = 0

abbrev pub total_in : Tally → ℕ × ℤ
total_in Nothing = (0, pos 0)
total_in (Count count) = (0, pos 0)
total_in (Sum total) = total
total_in (Least cell) = (0, pos 0)
total_in (Greatest cell) = (0, pos 0)

abbrev pub cell_in : Tally → Value
cell_in Nothing = value.Null
cell_in (Count count) = value.Null
cell_in (Sum total) = value.Null
cell_in (Least cell) = cell
cell_in (Greatest cell) = cell

-- the lesser and the greater of two cells, NULL only where both are
abbrev pub least_joined : Value → Value → Value
least_joined a b = if is_null b then a else lesser a b

abbrev pub greatest_joined : Value → Value → Value
greatest_joined a b = if is_null b then a else greater a b

-- the tally of the rows of both
abbrev pub joined : Tally → Tally → Tally
joined Nothing more = Nothing
joined (Count count) more = Count (count + count_in more)
joined (Sum total) more = Sum (total.0 + (total_in more).0, total.1 +ℤ (total_in more).1)
joined (Least cell) more = Least (least_joined cell (cell_in more))
joined (Greatest cell) more = Greatest (greatest_joined cell (cell_in more))

-- tally by tally; those past the others stay
abbrev pub all_joined : List Tally → List Tally → List Tally
all_joined [] others = []
all_joined (t ∷ tallies) [] = t ∷ tallies
all_joined (t ∷ tallies) (u ∷ others) = joined t u ∷ all_joined tallies others

-- what an item shows by its tally, None where that is refused. A column shows the group's cell
abbrev pub shown : Schema → List ℕ → List Value → Item → Tally → Option Loose
shown schema columns cells (item.Column i) tally = Some (loose_in (slice_get schema.columns i) (cell_at cells (place_of columns i)))
shown schema columns cells item.CountAll tally = count_of (count_in tally)
shown schema columns cells (item.Count i) tally = count_of (count_in tally)
shown schema columns cells (item.Sum i) tally = if (total_in tally).0 == 0 then Some Null else of_sum_in (slice_get schema.columns i) (total_in tally).1 (total_in tally).1
shown schema columns cells (item.Min i) tally = Some (loose_in (slice_get schema.columns i) (cell_in tally))
shown schema columns cells (item.Max i) tally = Some (loose_in (slice_get schema.columns i) (cell_in tally))
shown schema columns cells (item.Avg i) tally = if (total_in tally).0 == 0 then Some Null else of_sum_in (slice_get schema.columns i) (total_in tally).1 (int_div (total_in tally).1 (pos (total_in tally).0))
