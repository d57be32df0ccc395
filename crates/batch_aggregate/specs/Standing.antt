-- What a partial answer keeps of the rows that were added to it.
use Rattle.std.specs.Prelude.{◌≡◌, ℕ, ◌<◌, Bool, true, false, List, [], ◌∷◌, ◌++◌, map, zip, fold, length, Result, Ok, Err, IsPermutation, if◌then◌else◌}
use Rattle.cs_types.specs.declared.Schema.{Schema}
use Rattle.cs_types.specs.declared.Value.{Value}
use Rattle.cs_types.specs.declared.Loose.{Loose}
use Rattle.cs_model.specs.declared.plan.Item.{Item}
use Rattle.cs_model.specs.declared.plan.Query.{Query}
use Rattle.cs_model.specs.declared.answer_refusal.AnswerRefusal.{AnswerRefusal}
use Rattle.cs_model.specs.declared.answer_refusal.AnswerRefusal.TheVariants.{Overflow, Memory}
use Rattle.cs_model.specs.Order.{comes_before, in_order}
use Rattle.cs_model.specs.Queries.{kept, values_from, answer_rows, group_order}
use Rattle.cs_model.specs.Groups.{Group, groups_of, same_cells}
use Rattle.batch_aggregate.specs.Tallies.{tally_of, all_joined, shown}
use Rattle.batch_aggregate.specs.declared.tally.Tally.{Tally}
use Rattle.batch_aggregate.specs.declared.entries.Entries.{Entries}
use Rattle.batch_aggregate.specs.declared.entries.Entries.TheVariants.{Alone, ByCell, ByCells}
use Rattle.batch_aggregate.specs.declared.partial.Partial.{Partial}

-- a group's cells, and a tally for each item
abbrev pub Entry : Type 0
Entry = List Value × List Tally

-- the entry of a group
abbrev pub entry_of : List Item → Group → Entry
entry_of items group = (group.0, map (tally_of group.1) items)

-- the entries of a query over rows
abbrev pub entries_of : Query → List (List Value) → List Entry
entries_of query rows = map (entry_of query.items) (groups_of query.groups rows)

-- the entries with the tallies of further rows, which all have these cells: they join those of the entry with these cells, or
-- make a new one
abbrev pub with_tallies : List Value → List Tally → List Entry → List Entry
with_tallies cells tallies [] = (cells, tallies) ∷ []
with_tallies cells tallies (e ∷ es) = if same_cells cells e.0 then (e.0, all_joined e.1 tallies) ∷ es else e ∷ with_tallies cells tallies es

-- the entries with all of others
abbrev pub merged : List Entry → List Entry → List Entry
merged = fold (λ es e. with_tallies e.0 e.1 es)

-- an entry's row of the answer
abbrev pub entry_row : Schema → Query → Entry → Result (List Loose) ℕ
entry_row schema query entry = values_from 1 (map (λ pair. shown schema query.groups entry.0 pair.0 pair.1) (zip query.items entry.1))

-- the answer from entries
abbrev pub answer_of : Schema → Query → List Entry → Result (List (List Loose)) (ℕ × ℕ)
answer_of schema query entries = answer_rows 1 (map (entry_row schema query) (in_order (λ a b. comes_before (group_order query) a.0 b.0) entries))

-- what is there, and then what follows; a refusal stays
abbrev pub with_front : {X E : Type 0} → List X → Result (List X) E → Result (List X) E
with_front front (Ok xs) = Ok (front ++ xs)
with_front front (Err e) = Err e

-- a row of the answer, or the refusal of an item of this row
abbrev pub GivesRow : ℕ → Result (List Loose) AnswerRefusal → Result (List Loose) ℕ → Type 0
GivesRow row (Ok values) computed = computed ≡ Ok values
GivesRow row (Err (Overflow r column)) computed = (r ≡ row) × (computed ≡ Err column)
GivesRow row (Err Memory) computed = Unit {0}

-- the entry of a group that is kept by its one cell
abbrev pub entry_at : Value × List Tally → Entry
entry_at kept = (kept.0 ∷ [], kept.1)

-- the entries that are kept
abbrev pub entries_in : Entries → List Entry
entries_in (Alone tallies) = ([], tallies) ∷ []
entries_in (ByCell column groups) = map entry_at groups.entries
entries_in (ByCells groups) = groups.entries

-- entries are kept by these grouping columns
abbrev pub IsBy : List ℕ → Entries → Type 0
IsBy columns (Alone tallies) = columns ≡ []
IsBy columns (ByCell column groups) = columns ≡ column ∷ []
IsBy columns (ByCells groups) = 1 < length columns

-- a partial answer keeps the entries of the rows that the filter keeps, in any order, or in a query without groups the rows
abbrev pub Keeps : Bool → Partial → List (List Value) → Type 0
Keeps true partial rows = IsBy partial.query.now.groups partial.groups × IsPermutation (entries_of partial.query.now rows) (entries_in partial.groups)
Keeps false partial rows = partial.rows.items ≡ rows

-- a partial answer stands for the rows that were added to it
abbrev pub StandsFor : Partial → List (List Value) → Type 0
StandsFor partial rows = Keeps partial.query.now.grouped partial (kept partial.schema.now partial.query.now rows)
