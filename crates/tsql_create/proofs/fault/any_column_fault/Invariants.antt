use Rattle.std.proofs.Common.{◌≡◌, drop}
use Rattle.std.specs.List.{flat_map}
use Rattle.tsql_exprs.specs.Leftmost.{earlier, leftmost}
use Rattle.tsql_create.specs.Faults.{column_faults}
use Rattle.tsql_create.proofs.fault.any_column_fault.Given as goal

abbrev pub invariant-loop-column : goal.invariant-loop-column
invariant-loop-column l = earlier l.found (leftmost (flat_map column_faults (drop l.column-index l.columns))) ≡ leftmost (flat_map column_faults l.columns)
