-- What a statement reads and writes, by one plain table.
use Rattle.std.specs.Prelude.{ℕ, ◌+◌, ◌==◌, ℤ, pos, ◌+ℤ◌, ◌-ℤ◌, int_lt, unsigned_abs, List, [], ◌∷◌, map, filter, slice_get, unwrap_or, if◌then◌else◌, Option, None, Some, Result, Ok, Err}
use Rattle.std.specs.List.{position_from, range_with_len, find}
use Rattle.std.specs.Option.{option_and_then}
use Rattle.cs_types.specs.declared.Value.{Value}
use Rattle.cs_types.specs.declared.Value.TheVariants.{Number}
use Rattle.cs_types.specs.declared.Loose.TheVariants as loose
use Rattle.cs_types.specs.declared.Column.{Column}
use Rattle.cs_types.specs.declared.Schema.{Schema}
use Rattle.cs_types.specs.declared.Key.{Key}
use Rattle.cs_types.specs.declared.refusal.ValueRefusal.{ValueRefusal}
use Rattle.cs_types.specs.Fit.{fit, refusal_number}
use Rattle.cs_types.specs.Rows.{cell_at, key_in}
use Rattle.cs_model.specs.declared.expr.Expr.{Expr}
use Rattle.cs_model.specs.declared.pred.Pred.{Pred}
use Rattle.cs_model.specs.declared.plan.InsertPlan.{InsertPlan}
use Rattle.cs_model.specs.declared.plan.UpdatePlan.{UpdatePlan}
use Rattle.cs_model.specs.Expressions.{Computed, compute, refusal_number as expr_number}
use Rattle.cs_model.specs.Series.{series_schema}
use Rattle.cs_model.specs.Queries.{keeps}
use Rattle.cs_model.specs.declared.entry.Bound.{Bound}
use Rattle.cs_model.specs.declared.entry.Bound.TheVariants.{Begin, Commit, Rollback, Nothing, Statistics, Insert, Update, Delete, Select, GroupReport, SegmentReport, Reorganize, Refused}
use Rattle.cs_model.specs.declared.entry.Refusal.{Refusal}
use Rattle.cs_model.specs.declared.entry.Refusal.TheVariants.{Valued}
use Rattle.cs_model.specs.Changes.{Edit, Table}

-- ---- cells and rows that are written

-- a value, or the number of the error for which it is refused
abbrev pub with_number : Result Value ValueRefusal → Result Value ℕ
with_number (Ok v) = Ok v
with_number (Err refusal) = Err (refusal_number refusal)

-- the value that a column keeps of what was computed, or the number of the error
abbrev pub kept : Column → Computed → Result Value ℕ
kept column (Ok x) = with_number (fit column.kind column.nullable x)
kept column (Err refusal) = Err (expr_number refusal)

-- a cell before those after it, or its refusal with the column, counted from 1
abbrev pub cell_onto : ℕ → Result Value ℕ → Result (List Value) (ℕ × ℕ) → Result (List Value) (ℕ × ℕ)
cell_onto i (Err number) cells = Err (number, i + 1)
cell_onto i (Ok v) (Ok cells) = Ok (v ∷ cells)
cell_onto i (Ok v) (Err refusal) = Err refusal

-- the cells of these columns, from the i-th on, or the first refusal of one
abbrev pub cells_from : (ℕ → Column → Result Value ℕ) → ℕ → List Column → Result (List Value) (ℕ × ℕ)
cells_from cell i [] = Ok []
cells_from cell i (column ∷ rest) = cell_onto i (cell i column) (cells_from cell (i + 1) rest)

-- what is written of a row before what is written of those after it, or its refusal with the row
abbrev pub row_onto : {Y : Type 0} → ℕ → Result Y (ℕ × ℕ) → Result (List Y) Refusal → Result (List Y) Refusal
row_onto n (Err refusal) rows = Err (Valued refusal.0 n refusal.1)
row_onto n (Ok row) (Ok rows) = Ok (row ∷ rows)
row_onto n (Ok row) (Err refusal) = Err refusal

-- what is written of these, of which the first one is the n-th, or the first refusal of one
abbrev pub rows_from : {X Y : Type 0} → (X → Result Y (ℕ × ℕ)) → ℕ → List X → Result (List Y) Refusal
rows_from row n [] = Ok []
rows_from row n (x ∷ rest) = row_onto n (row x) (rows_from row (n + 1) rest)

-- ---- INSERT

-- the value that a column is given over a row, and NULL where it is given none
abbrev pub computed_of : Schema → List Value → Option Expr → Computed
computed_of source row None = Ok loose.Null
computed_of source row (Some expr) = compute expr row source

-- what the list of columns gives the column with this number
abbrev pub given : List ℕ → List Expr → ℕ → Option Expr
given columns exprs i = option_and_then (slice_get exprs) (position_from (λ c. c == i) 0 columns)

abbrev pub inserted_cell : Schema → List Value → List ℕ → List Expr → ℕ → Column → Result Value ℕ
inserted_cell source row columns exprs i column = kept column (computed_of source row (given columns exprs i))

-- a row of these expressions, which read a row of the source
abbrev pub inserted_row : Schema → Schema → List ℕ → List Value → List Expr → Result (List Value) (ℕ × ℕ)
inserted_row schema source columns row exprs = cells_from (inserted_cell source row columns exprs) 0 schema.columns

-- the numbers of a series, from its first to its last
abbrev pub series_len : ℤ → ℤ → ℕ
series_len start stop = if int_lt stop start then 0 else unsigned_abs (stop -ℤ start) + 1

abbrev pub series : ℤ × ℤ → List ℤ
series ends = map (λ i. ends.0 +ℤ pos i) (range_with_len 0 (series_len ends.0 ends.1))

-- the rows of VALUES, which read nothing; and a row over each number of a series
abbrev pub inserted_by : Schema → List ℕ → List (List Expr) → Option (ℤ × ℤ) → Result (List (List Value)) Refusal
inserted_by schema columns rows None = rows_from (inserted_row schema schema columns []) 1 rows
inserted_by schema columns rows (Some ends) =
    rows_from (λ number. inserted_row schema series_schema columns (Number number ∷ []) (unwrap_or (slice_get rows 0) [])) 1 (series ends)

-- the rows that an INSERT writes, or its first value refusal by row and then by column
abbrev pub inserted : Schema → InsertPlan → Result (List (List Value)) Refusal
inserted schema plan = inserted_by schema plan.columns plan.rows plan.series

-- each row at its key, where a key may stand twice; their order decides nothing
abbrev pub edits_of : Schema → List (List Value) → List Edit
edits_of schema rows = map (λ row. (key_in schema.key row, Some row)) rows

abbrev pub edits_by : Schema → Result (List (List Value)) Refusal → Result (List Edit) Refusal
edits_by schema (Ok rows) = Ok (edits_of schema rows)
edits_by schema (Err refusal) = Err refusal

-- ---- UPDATE and DELETE

-- the rows of the table, in the order of their keys, that a condition keeps
abbrev pub chosen : Schema → Option Pred → Table → Table
chosen schema condition table = filter (λ (entry : Key × List Value). keeps schema condition entry.1) table

-- what a column becomes: the value of what it is set to over the row as it was, and else what it was
abbrev pub updated_by : Schema → List Value → ℕ → Column → Option (ℕ × Expr) → Result Value ℕ
updated_by schema row i column None = Ok (cell_at row i)
updated_by schema row i column (Some set) = kept column (compute set.1 row schema)

abbrev pub updated_cell : Schema → List (ℕ × Expr) → List Value → ℕ → Column → Result Value ℕ
updated_cell schema sets row i column = updated_by schema row i column (find (λ (set : ℕ × Expr). set.0 == i) sets)

abbrev pub updated_row : Schema → List (ℕ × Expr) → List Value → Result (List Value) (ℕ × ℕ)
updated_row schema sets row = cells_from (updated_cell schema sets row) 0 schema.columns

-- a row at its key
abbrev pub at_key : Key → Result (List Value) (ℕ × ℕ) → Result Edit (ℕ × ℕ)
at_key key (Ok row) = Ok (key, Some row)
at_key key (Err refusal) = Err refusal

abbrev pub updated_entry : Schema → List (ℕ × Expr) → Key × List Value → Result Edit (ℕ × ℕ)
updated_entry schema sets entry = at_key entry.0 (updated_row schema sets entry.1)

-- what an UPDATE writes, or its first value refusal by row and then by column; its rows are counted among those it changes
abbrev pub updated : Schema → UpdatePlan → Table → Result (List Edit) Refusal
updated schema plan table = rows_from (updated_entry schema plan.sets) 1 (chosen schema plan.filter table)

abbrev pub deleted : Schema → Option Pred → Table → List Edit
deleted schema condition table = map (λ (entry : Key × List Value). (entry.0, None)) (chosen schema condition table)

-- ---- writes

-- what a statement writes over the table that it reads, or its first value refusal
abbrev pub writes : Schema → Table → Bound → Result (List Edit) Refusal
writes schema table Begin = Ok []
writes schema table Commit = Ok []
writes schema table Rollback = Ok []
writes schema table Nothing = Ok []
writes schema table (Statistics on) = Ok []
writes schema table (Insert plan) = edits_by schema (inserted schema plan)
writes schema table (Update plan) = updated schema plan table
writes schema table (Delete condition) = Ok (deleted schema condition table)
writes schema table (Select query) = Ok []
writes schema table GroupReport = Ok []
writes schema table SegmentReport = Ok []
writes schema table (Reorganize all) = Ok []
writes schema table (Refused refusal) = Ok []
