use Rattle.std.proofs.Common.{◌≡◌, [], ◌∷◌}
use Rattle.cs_types.specs.declared.Value.TheVariants.{Number}
use Rattle.cs_model.specs.Answers.{inserted_cell}
use Rattle.cs_model.specs.Series.{series_schema}
use Rattle.row_work.proofs.Written.{all_cells, with_rest}
use Rattle.row_work.proofs.write.series_row.Given as goal

abbrev pub invariant-loop-i : goal.invariant-loop-i
invariant-loop-i l =
    with_rest (inserted_cell series_schema (Number l.number ∷ []) l.columns l.exprs) l.schema.columns l.cells l.i
    ≡ all_cells (inserted_cell series_schema (Number l.number ∷ []) l.columns l.exprs) l.schema.columns
