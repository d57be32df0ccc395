use Rattle.std.proofs.Common.{rules, ℤ, [], ◌∷◌}
use Rattle.cs_types.specs.declared.Value.TheVariants.{Number}
use Rattle.cs_model.specs.Answers.{inserted_row}
use Rattle.cs_model.specs.Series.{series_schema}
use Rattle.row_work.proofs.RowWrites.{given_edits}
use Rattle.row_work.proofs.write.written.Goals as goal

pub returns-in-Some : goal.returns-in-Some
returns-in-Some c =
    let schema = c.args.schema.now in
    let row = λ (number : ℤ). inserted_row schema series_schema c.as_slice-columns.result.now (Number number ∷ []) c.first_row.result.now in
    let gives = given_edits schema row 1 _ c.series_writes.result c.series_writes.ensures in
    search (rules, gives)

pub returns-in-None : goal.returns-in-None
returns-in-None c =
    let schema = c.args.schema.now in
    let row = inserted_row schema schema c.as_slice-columns.result.now [] in
    let gives = given_edits schema row 1 c.as_slice-rows.result.now c.values_writes.result c.values_writes.ensures in
    search (rules, gives)
