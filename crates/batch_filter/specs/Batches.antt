-- Rows whose cells stand in batches, one batch for each column.
use Rattle.std.specs.Prelude.{ℕ, List, [], ◌++◌, map, filter_map, length, slice_get, slice_index_or, Option, option_map}
use Rattle.cs_types.specs.declared.Value.{Value}
use Rattle.cs_types.specs.Rows.{cell_at}
use Rattle.cs_model.specs.declared.pred.Pred.{Pred}
use Rattle.batch_filter.specs.Named.{named}

-- row i of the batches: cell i of each
abbrev pub batch_row : List (List Value) → ℕ → List Value
batch_row columns i = map (λ batch. cell_at batch i) columns

-- the batches of some columns
abbrev pub batches_of : List (List Value) → List ℕ → List (List Value)
batches_of columns numbers = filter_map (slice_get columns) numbers

-- how many cells the first of some batches has, where there is one
abbrev pub first_count : List (List Value) → Option ℕ
first_count batches = option_map length (slice_get batches 0)

-- how many rows the batches have for a predicate: as many as there are cells in the first batch of a column that it names, or, where
-- there is none, in the first batch
abbrev pub row_count : Pred → List (List Value) → ℕ
row_count pred columns = length (slice_index_or (batches_of columns (named pred) ++ columns) 0 [])
