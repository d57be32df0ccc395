use Rattle.std.proofs.Common.{◌≡◌, drop, map}
use Rattle.bind_faults.specs.Least.{earlier, least}
use Rattle.bind_faults.specs.Columns.{again_faults}
use Rattle.bind_faults.proofs.Columns.{later_faults}
use Rattle.bind_faults.proofs.column.again_fault.Given as goal

abbrev pub invariant-loop-one : goal.invariant-loop-one
invariant-loop-one g l =
    earlier l.found (least (later_faults l.column l.seen (map g.T.Named.name_of (drop l.one-index l.named)))) ≡ least (again_faults (map g.T.Named.name_of l.named) l.column)
