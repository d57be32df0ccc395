use Rattle.std.proofs.Common.{◌≡◌, ◌++◌, map}
use Rattle.batch_aggregate.specs.Standing.{entry_at}
use Rattle.batch_aggregate.proofs.entries.with_rows.Given as goal

-- the groups so far and those that are left are all
abbrev pub invariant-loop-cell : goal.invariant-loop-cell
invariant-loop-cell l = l.list.items ++ map entry_at l.cell-iterator ≡ map entry_at l.fn.groups.entries
