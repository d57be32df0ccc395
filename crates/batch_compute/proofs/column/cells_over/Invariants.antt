use Rattle.std.proofs.Common.{◌≤◌, ◌-◌, Some, length, take}
use Rattle.batch_compute.specs.Columns.{KeepsOver}
use Rattle.batch_compute.proofs.column.cells_over.Given as goal

abbrev pub invariant-loop-done : goal.invariant-loop-done
invariant-loop-done l = record {
  within : l.done ≤ length l.numbers;
  keeps : KeepsOver l.column (Some l.expr) (take l.done l.numbers) l.cells.items;
}

abbrev pub decreases-loop-done : goal.decreases-loop-done
decreases-loop-done l = length l.numbers - l.done
