-- What a statement writes fits the table, with a cell for every column.
use Rattle.std.proofs.Common.{◌≡◌, ◌≢◌, ℕ, ℤ, List, [], ◌∷◌, length, map, refl, subst}
use Rattle.std.specs.Prelude.{Option, None, Some, Result, Ok, Err, slice_get, unwrap_or}
use Rattle.std.specs.List.{All, AllByRecursion}
use Rattle.std.proofs.lemmas.List.Elements.{All-cons, All-filter, All-nil, recursion_from_All}
use Rattle.cs_types.specs.declared.Key.{Key}
use Rattle.cs_types.specs.declared.Schema.{Schema}
use Rattle.cs_types.specs.declared.Value.{Value}
use Rattle.cs_types.specs.declared.Value.TheVariants.{Number}
use Rattle.cs_types.specs.Rows.{key_in}
use Rattle.cs_types.specs.Schemas.{IsSchema}
use Rattle.cs_model.specs.declared.expr.Expr.{Expr}
use Rattle.cs_model.specs.declared.pred.Pred.{Pred}
use Rattle.cs_model.specs.declared.plan.InsertPlan.{InsertPlan}
use Rattle.cs_model.specs.declared.plan.UpdatePlan.{UpdatePlan}
use Rattle.cs_model.specs.declared.entry.Refusal.{Refusal}
use Rattle.cs_model.specs.Answers.{edits_of, edits_by, at_key, inserted_by, inserted_cell, inserted_row, inserted, series, chosen, updated, updated_cell, updated_row, updated_entry, deleted}
use Rattle.cs_model.specs.Changes.{Edit, Table}
use Rattle.cs_model.specs.Held.{IsFit, IsFitEntry, IsFitTable, IsWhole}
use Rattle.cs_model.specs.Queries.{keeps}
use Rattle.cs_model.specs.Series.{series_schema}
use Rattle.row_work.proofs.Fitting.{held_key, IsRow}
use Rattle.row_work.proofs.Written.{cells_wide, each, inserted_is_row, rows_each, updated_row_at}

-- an edit that fits, with a row of all cells
abbrev pub Fits : Schema → Edit → Type 0
Fits schema edit = IsFit schema edit × IsWhole schema edit

-- ---- an UPDATE

module _ (schema : Schema) (is : IsSchema schema) where
  updated_fits : (sets : List (ℕ × Expr)) (entry : Key × List Value) (row : Result (List Value) (ℕ × ℕ)) (edit : Edit) → All (λ (set : ℕ × Expr). set.0 ≢ schema.key) sets → IsFitEntry schema entry → updated_row schema sets entry.1 ≡ row
      → at_key entry.0 row ≡ Ok edit → Fits schema edit
  updated_fits sets entry (Err e) edit others fit written is_edit = absurd (cc)
  updated_fits sets entry (Ok cells) edit others fit written is_edit =
      let same : (entry.0, Some cells) ≡ edit = cc in
      subst (Fits schema) same ((fit.0, updated_row_at schema sets entry.0 entry.1 cells is others fit.1 written), cells_wide (updated_cell schema sets entry.1) 0 schema.columns cells written)

  pub update_fits : (plan : UpdatePlan) (table : Table) (edits : List Edit) → All (λ (set : ℕ × Expr). set.0 ≢ schema.key) plan.sets → IsFitTable schema table → updated schema plan table ≡ Ok edits → All (Fits schema) edits
  update_fits plan table edits others fit written =
      rows_each (Fits schema) (IsFitEntry schema) (updated_entry schema plan.sets) 1 (chosen schema plan.filter table) edits
      (λ entry edit here. updated_fits plan.sets entry (updated_row schema plan.sets entry.1) edit others here refl)
      (recursion_from_All (IsFitEntry schema) (chosen schema plan.filter table) (All-filter (λ (entry : Key × List Value). keeps schema plan.filter entry.1) (IsFitEntry schema) table fit)) written

  -- ---- a DELETE

  pub delete_fits : (condition : Option Pred) (table : Table) → IsFitTable schema table → All (Fits schema) (deleted schema condition table)
  delete_fits condition table fit = gone (chosen schema condition table) (recursion_from_All (IsFitEntry schema) (chosen schema condition table) (All-filter (λ (entry : Key × List Value). keeps schema condition entry.1) (IsFitEntry schema) table fit))
    where
      gone : (rows : Table) → AllByRecursion (IsFitEntry schema) rows → All (Fits schema) (map (λ (entry : Key × List Value). (entry.0, None)) rows)
      gone [] all = All-nil (Fits schema)
      gone (entry ∷ rows) all = All-cons (Fits schema) (entry.0, None) (map (λ (e : Key × List Value). (e.0, None)) rows) ((all.0.0, tt), tt) (gone rows all.1)

  -- ---- an INSERT

  abbrev IsWide : List Value → Type 0
  IsWide row = IsRow schema row × (length row ≡ length schema.columns)

  edits_wide : (rows : List (List Value)) → AllByRecursion IsWide rows → All (Fits schema) (edits_of schema rows)
  edits_wide [] all = All-nil (Fits schema)
  edits_wide (row ∷ rows) all =
      All-cons (Fits schema) (key_in schema.key row, Some row) (edits_of schema rows) ((held_key schema row is all.0.0.row, all.0.0), all.0.1) (edits_wide rows all.1)

  row_wide : (source : Schema) (columns : List ℕ) (read : List Value) (exprs : List Expr) (cells : List Value) → inserted_row schema source columns read exprs ≡ Ok cells → IsWide cells
  row_wide source columns read exprs cells written =
      (inserted_is_row schema source columns read exprs cells written, cells_wide (inserted_cell source read columns exprs) 0 schema.columns cells written)

  rows_wide : (columns : List ℕ) (rows : List (List Expr)) (ends : Option (ℤ × ℤ)) (written : List (List Value)) → inserted_by schema columns rows ends ≡ Ok written → All IsWide written
  rows_wide columns rows None written is_written =
      rows_each IsWide (λ _. Unit {0}) (inserted_row schema schema columns []) 1 rows written (λ exprs cells here. row_wide schema columns [] exprs cells) (each rows) is_written
  rows_wide columns rows (Some ends) written is_written =
      rows_each IsWide (λ _. Unit {0}) (λ (number : ℤ). inserted_row schema series_schema columns (Number number ∷ []) (unwrap_or (slice_get rows 0) [])) 1 (series ends) written
      (λ number cells here. row_wide series_schema columns (Number number ∷ []) (unwrap_or (slice_get rows 0) []) cells) (each (series ends)) is_written

  insert_step : (written : Result (List (List Value)) Refusal) (edits : List Edit) → ((rows : List (List Value)) → written ≡ Ok rows → All IsWide rows) → edits_by schema written ≡ Ok edits → All (Fits schema) edits
  insert_step (Err e) edits wide is_edits = absurd (cc)
  insert_step (Ok rows) edits wide is_edits =
      let same : edits_of schema rows ≡ edits = cc in
      subst (All (Fits schema)) same (edits_wide rows (recursion_from_All IsWide rows (wide rows refl)))

  pub insert_fits : (plan : InsertPlan) (edits : List Edit) → edits_by schema (inserted schema plan) ≡ Ok edits → All (Fits schema) edits
  insert_fits plan edits is_edits = insert_step (inserted schema plan) edits (λ rows. rows_wide plan.columns plan.rows plan.series rows) is_edits
