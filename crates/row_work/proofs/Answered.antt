-- The answer over what is read, by the rows in the order in which they are read.
use Rattle.std.proofs.Common.{◌≡◌, List, length, sym, subst}
use Rattle.std.specs.Prelude.{Option, Result, IfOk}
use Rattle.std.specs.List.{All}
use Rattle.std.specs.List.Sorted.{IsStrictlySortedBy}
use Rattle.std.specs.Map.{values_of}
use Rattle.std.proofs.lemmas.List.Sorted.{IsPermutation-map, IsPermutation-sym}
use Rattle.cs_types.specs.declared.Key.{Key}
use Rattle.cs_types.specs.declared.Loose.{Loose}
use Rattle.cs_types.specs.declared.Schema.{Schema}
use Rattle.cs_types.specs.declared.Value.{Value}
use Rattle.cs_model.specs.declared.answer_refusal.AnswerRefusal.{AnswerRefusal}
use Rattle.cs_types.specs.Keys.{key_cmp}
use Rattle.cs_model.specs.declared.plan.Query.{Query}
use Rattle.cs_model.specs.declared.pred.Pred.{Pred}
use Rattle.cs_model.specs.Answers.{chosen}
use Rattle.cs_model.specs.Held.{IsFitTable}
use Rattle.cs_model.specs.Queries.{Gives, answer}
use Rattle.cs_model.specs.Text.{IsPrintableRow}
use Rattle.write_set.specs.Writes.{Ascend}
use Rattle.answer_laws.proofs.Answered.{answer-moved_by_keys}
use Rattle.answer_laws.proofs.Keys.{keys_of_table}
use Rattle.group_view.specs.declared.view.Pinned.{Pinned}
use Rattle.row_work.specs.Named.{rows_at, KeepsAt}
use Rattle.row_work.specs.Reads.{read_by, rows_in, MayRead}
use Rattle.row_work.proofs.Cells.{answer_printable}
use Rattle.row_work.proofs.Fitting.{table_held}
use Rattle.row_work.proofs.NamedRows.{answer_of_kept, chosen_at}
use Rattle.row_work.proofs.Overlaid.{read_ascends, read_fits, rows_are_read}

module _ (schema : Schema) (query : Query) (pinned : Pinned) (may : MayRead schema pinned) where
  fits : IsFitTable schema (read_by (length schema.columns) pinned)
  fits = read_fits schema pinned (length schema.columns) may.fit may.own_fit

  -- rows in the order in which they are read have the answer of the table
  pub answer_read : (r : Result (List (List Loose)) AnswerRefusal) → Ascend pinned.own → Gives r (answer schema query (values_of (rows_in (length schema.columns) pinned))) → Gives r (answer schema query (values_of (read_by (length schema.columns) pinned)))
  answer_read r order gives =
      let table = read_by (length schema.columns) pinned in
      let rows = rows_in (length schema.columns) pinned in
      let moved = IsPermutation-map (λ (entry : Key × List Value). entry.1) table rows (IsPermutation-sym rows table (rows_are_read (length schema.columns) pinned may.snapshot order)) in
      subst (Gives r) (sym (answer-moved_by_keys schema query (values_of table) (values_of rows) moved (keys_of_table schema table fits (read_ascends (length schema.columns) pinned)))) gives

  pub print_read : (r : Result (List (List Loose)) AnswerRefusal) → Gives r (answer schema query (values_of (read_by (length schema.columns) pinned))) → IfOk r (λ found. All IsPrintableRow found)
  print_read r gives = answer_printable schema query (values_of (read_by (length schema.columns) pinned)) r (table_held schema (read_by (length schema.columns) pinned) fits) gives

-- the rows at the keys that a condition names are all that it keeps of what is read
pub chosen_named : (schema : Schema) (condition : Option Pred) (pinned : Pinned) → MayRead schema pinned → (keys : List Key) → IsStrictlySortedBy key_cmp keys → KeepsAt schema condition keys
    → chosen schema condition (rows_at (read_by (length schema.columns) pinned) keys) ≡ chosen schema condition (read_by (length schema.columns) pinned)
chosen_named schema condition pinned may keys order named =
    let width = length schema.columns in
    chosen_at schema condition (read_by width pinned) keys (read_ascends width pinned) (read_fits schema pinned width may.fit may.own_fit) order named

-- and have the answer of the table
pub answer_named : (schema : Schema) (query : Query) (pinned : Pinned) → MayRead schema pinned → (keys : List Key) (r : Result (List (List Loose)) AnswerRefusal) → IsStrictlySortedBy key_cmp keys → KeepsAt schema query.filter keys
    → Gives r (answer schema query (values_of (rows_at (read_by (length schema.columns) pinned) keys))) → Gives r (answer schema query (values_of (read_by (length schema.columns) pinned)))
answer_named schema query pinned may keys r order named gives =
    let table = read_by (length schema.columns) pinned in
    subst (Gives r) (answer_of_kept schema query (rows_at table keys) table (chosen_named schema query.filter pinned may keys order named)) gives
