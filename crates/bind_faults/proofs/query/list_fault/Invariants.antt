use Rattle.std.proofs.Common.{◌≡◌, drop}
use Rattle.std.specs.List.{flat_map}
use Rattle.bind_faults.specs.Least.{earlier, least}
use Rattle.bind_faults.specs.Queries.{item_faults}
use Rattle.bind_faults.proofs.query.list_fault.Given as goal

abbrev pub invariant-loop-item : goal.invariant-loop-item
invariant-loop-item l = earlier l.found (least (flat_map (item_faults l.schema l.grouping l.groups) (drop l.item-index l.items))) ≡ least (flat_map (item_faults l.schema l.grouping l.groups) l.items)
