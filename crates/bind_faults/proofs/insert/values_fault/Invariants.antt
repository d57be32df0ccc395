use Rattle.std.proofs.Common.{◌≡◌, drop}
use Rattle.bind_faults.specs.Least.{earlier, least}
use Rattle.bind_faults.specs.Inserts.{values_faults}
use Rattle.bind_faults.proofs.insert.values_fault.Given as goal

abbrev pub invariant-loop-i : goal.invariant-loop-i
invariant-loop-i l = earlier l.found (least (values_faults l.schema l.scope l.names l.i (drop l.i l.values))) ≡ least (values_faults l.schema l.scope l.names 0 l.values)
