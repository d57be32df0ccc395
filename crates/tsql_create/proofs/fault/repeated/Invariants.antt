use Rattle.std.proofs.Common.{◌≡◌, take, drop, []}
use Rattle.tsql_exprs.specs.Leftmost.{earlier, leftmost}
use Rattle.tsql_create.specs.Faults.{repeated}
use Rattle.tsql_create.proofs.fault.repeated.Given as goal

abbrev pub invariant-loop-i : goal.invariant-loop-i
invariant-loop-i l = earlier l.found (leftmost (repeated (take l.i l.columns) (drop l.i l.columns))) ≡ leftmost (repeated [] l.columns)
