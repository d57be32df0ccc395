-- The answer of a query over a list of rows.
use Rattle.std.specs.Prelude.{◌≡◌, ℕ, ◌+◌, Bool, true, false, List, [], ◌∷◌, ◌++◌, map, filter, length, Option, Some, None, Result, Ok, Err, if◌then◌else◌}
use Rattle.std.specs.List.{range_with_len}
use Rattle.cs_types.specs.declared.Schema.{Schema}
use Rattle.cs_types.specs.declared.Value.{Value}
use Rattle.cs_types.specs.declared.Loose.{Loose}
use Rattle.cs_model.specs.declared.pred.Pred.{Pred}
use Rattle.cs_model.specs.declared.plan.Query.{Query}
use Rattle.cs_model.specs.declared.truth.Truth.{Truth}
use Rattle.cs_model.specs.declared.truth.Truth.TheVariants.{True, False, Unknown}
use Rattle.cs_model.specs.Truths.{truth}
use Rattle.cs_model.specs.declared.answer_refusal.AnswerRefusal.{AnswerRefusal}
use Rattle.cs_model.specs.declared.answer_refusal.AnswerRefusal.TheVariants.{Overflow, Memory}
use Rattle.cs_model.specs.Groups.{Group, groups_of, place_of}
use Rattle.cs_model.specs.Items.{group_item, row_item}
use Rattle.cs_model.specs.Order.{comes_before, in_order}

abbrev pub is_true : Truth → Bool
is_true True = true
is_true False = false
is_true Unknown = false

-- a filter keeps the rows on which it is True; where there is none, all rows are kept
abbrev pub keeps : Schema → Option Pred → List Value → Bool
keeps schema None row = true
keeps schema (Some pred) row = is_true (truth pred row schema)

abbrev pub kept : Schema → Query → List (List Value) → List (List Value)
kept schema query rows = filter (keeps schema query.filter) rows

-- rows stand by the columns of ORDER BY and then by the key
abbrev pub row_order : Schema → Query → List (ℕ × Bool)
row_order schema query = query.order ++ (schema.key, false) ∷ []

-- groups stand by the columns of ORDER BY and then by all grouping columns, ascending in their order; these are places in
-- a group's cells
abbrev pub group_order : Query → List (ℕ × Bool)
group_order query = map (λ column. (place_of query.groups column.0, column.1)) query.order ++ map (λ place. (place, false)) (range_with_len 0 (length query.groups))

-- a value before what follows; a refusal stays
abbrev pub before : {X E : Type 0} → X → Result (List X) E → Result (List X) E
before x (Ok xs) = Ok (x ∷ xs)
before x (Err e) = Err e

-- the values, or the place of the first that is missing. Places are counted from n
abbrev pub values_from : ℕ → List (Option Loose) → Result (List Loose) ℕ
values_from n [] = Ok []
values_from n (None ∷ rest) = Err n
values_from n (Some x ∷ rest) = before x (values_from (n + 1) rest)

-- a group's row of the answer, or the place of its first item that is refused
abbrev pub group_row : Schema → Query → Group → Result (List Loose) ℕ
group_row schema query group = values_from 1 (map (group_item schema query.groups group) query.items)

-- the rows, or the first row that is refused, with its item. Rows are counted from n
abbrev pub answer_rows : ℕ → List (Result (List Loose) ℕ) → Result (List (List Loose)) (ℕ × ℕ)
answer_rows n [] = Ok []
answer_rows n (Err item ∷ rest) = Err (n, item)
answer_rows n (Ok row ∷ rest) = before row (answer_rows (n + 1) rest)

-- the answer of a query that puts rows together
abbrev pub grouped_answer : Schema → Query → List (List Value) → Result (List (List Loose)) (ℕ × ℕ)
grouped_answer schema query rows =
    answer_rows 1 (map (group_row schema query) (in_order (λ a b. comes_before (group_order query) a.0 b.0) (groups_of query.groups rows)))

-- the answer of a query that does not
abbrev pub plain_answer : Schema → Query → List (List Value) → List (List Loose)
plain_answer schema query rows = map (λ row. map (row_item schema row) query.items) (in_order (comes_before (row_order schema query)) rows)

-- the answer of a query over the rows of a table: its rows, or the first row and item whose whole count or sum is out of
-- its range, both counted from 1
abbrev pub answer : Schema → Query → List (List Value) → Result (List (List Loose)) (ℕ × ℕ)
answer schema query rows =
    if query.grouped then grouped_answer schema query (kept schema query rows) else Ok (plain_answer schema query (kept schema query rows))

-- what a call gives is the answer, but for want of memory
abbrev pub Gives : Result (List (List Loose)) AnswerRefusal → Result (List (List Loose)) (ℕ × ℕ) → Type 0
Gives (Ok rows) answered = answered ≡ Ok rows
Gives (Err (Overflow row column)) answered = answered ≡ Err (row, column)
Gives (Err Memory) answered = Unit {0}
