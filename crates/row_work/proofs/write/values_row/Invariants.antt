use Rattle.std.proofs.Common.{◌≡◌, []}
use Rattle.cs_model.specs.Answers.{inserted_cell}
use Rattle.row_work.proofs.Written.{all_cells, with_rest}
use Rattle.row_work.proofs.write.values_row.Given as goal

abbrev pub invariant-loop-i : goal.invariant-loop-i
invariant-loop-i l =
    with_rest (inserted_cell l.schema [] l.columns l.exprs) l.schema.columns l.cells l.i ≡ all_cells (inserted_cell l.schema [] l.columns l.exprs) l.schema.columns
