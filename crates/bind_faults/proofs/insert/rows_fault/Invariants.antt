use Rattle.std.proofs.Common.{◌≡◌, drop}
use Rattle.std.specs.List.{flat_map}
use Rattle.bind_faults.specs.Least.{earlier, least}
use Rattle.bind_faults.specs.Inserts.{row_faults}
use Rattle.bind_faults.proofs.insert.rows_fault.Given as goal

abbrev pub invariant-loop-row : goal.invariant-loop-row
invariant-loop-row l = earlier l.found (least (flat_map (row_faults l.schema l.names) (drop l.row-index l.rows))) ≡ least (flat_map (row_faults l.schema l.names) l.rows)
