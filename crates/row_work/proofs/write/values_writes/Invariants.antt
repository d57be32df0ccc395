use Rattle.std.proofs.Common.{◌≡◌, []}
use Rattle.row_work.specs.Inserts.{inserted_write}
use Rattle.row_work.proofs.Written.{all_rows, rows_with}
use Rattle.row_work.proofs.write.values_writes.Given as goal

abbrev pub invariant-loop-i : goal.invariant-loop-i
invariant-loop-i l = rows_with (inserted_write l.schema l.schema l.columns []) l.rows l.written l.i ≡ all_rows (inserted_write l.schema l.schema l.columns []) l.rows
