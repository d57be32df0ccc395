use Rattle.std.proofs.Common.{◌≡◌, drop}
use Rattle.std.specs.List.{flat_map}
use Rattle.bind_faults.specs.Least.{earlier, least}
use Rattle.bind_faults.specs.Families.{unknown_column}
use Rattle.bind_faults.proofs.column.no_column_fault.Given as goal

abbrev pub invariant-loop-name : goal.invariant-loop-name
invariant-loop-name l = earlier l.found (least (flat_map (unknown_column l.schema) (drop l.name-index l.names))) ≡ least (flat_map (unknown_column l.schema) l.names)
