use Rattle.std.proofs.Common.{◌≡◌, drop, map}
use Rattle.std.specs.List.{flat_map}
use Rattle.bind_faults.specs.Least.{earlier, least}
use Rattle.bind_faults.specs.Columns.{again_faults, twice_faults}
use Rattle.bind_faults.proofs.column.twice_fault.Given as goal

abbrev pub invariant-loop-column : goal.invariant-loop-column
invariant-loop-column g l =
    earlier l.found (least (flat_map (again_faults (map g.T.Named.name_of l.named)) (drop l.column-index l.column-items))) ≡ least (twice_faults l.schema (map g.T.Named.name_of l.named))
