use Rattle.std.proofs.Common.{take}
use Rattle.batch_compute.proofs.Rows.{AreMade}
use Rattle.batch_compute.proofs.columns.columns_over.Given as goal

abbrev pub invariant-loop-i : goal.invariant-loop-i
invariant-loop-i l = AreMade l.columns l.exprs l.numbers 0 (take l.i l.schema.columns) l.made.items
