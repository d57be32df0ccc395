use Rattle.std.proofs.Common.{◌≡◌, drop}
use Rattle.std.specs.List.{flat_map}
use Rattle.bind_faults.specs.Least.{earlier, least}
use Rattle.bind_faults.specs.Predicates.{beside_faults}
use Rattle.bind_faults.proofs.atom.list_fault.Given as goal

abbrev pub invariant-loop-literal : goal.invariant-loop-literal
invariant-loop-literal l = earlier l.found (least (flat_map (beside_faults l.column l.at) (drop l.literal-index l.list))) ≡ least (flat_map (beside_faults l.column l.at) l.list)
