use Rattle.std.proofs.Common.{◌≡◌, drop}
use Rattle.std.specs.List.{flat_map}
use Rattle.bind_faults.specs.Least.{earlier, least}
use Rattle.bind_faults.specs.Updates.{set_faults}
use Rattle.bind_faults.proofs.update.each_fault.Given as goal

abbrev pub invariant-loop-set : goal.invariant-loop-set
invariant-loop-set l = earlier l.found (least (flat_map (set_faults l.schema) (drop l.set-index l.sets))) ≡ least (flat_map (set_faults l.schema) l.sets)
