use Rattle.std.proofs.Common.{◌≡◌}
use Rattle.cs_model.specs.Answers.{updated_cell}
use Rattle.row_work.proofs.Written.{all_cells, with_rest}
use Rattle.row_work.proofs.update.updated_row.Given as goal

abbrev pub invariant-loop-i : goal.invariant-loop-i
invariant-loop-i l = with_rest (updated_cell l.schema l.sets l.old) l.schema.columns l.cells l.i ≡ all_cells (updated_cell l.schema l.sets l.old) l.schema.columns
