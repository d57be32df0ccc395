use Rattle.std.proofs.Common.{◌≡◌, ◌++◌}
use Rattle.batch_aggregate.proofs.entries.in_list.Given as goal

-- the groups so far and those that are left are all
abbrev pub invariant-loop-cells : goal.invariant-loop-cells
invariant-loop-cells l = l.list.items ++ l.cells-iterator ≡ l.fn.groups.entries
