use Rattle.std.proofs.Common.{◌≡◌, drop}
use Rattle.std.specs.List.{flat_map}
use Rattle.bind_faults.specs.Least.{earlier, least}
use Rattle.bind_faults.specs.Queries.{order_item_faults}
use Rattle.bind_faults.proofs.query.order_list_fault.Given as goal

abbrev pub invariant-loop-item : goal.invariant-loop-item
invariant-loop-item l = earlier l.found (least (flat_map (order_item_faults l.schema l.grouping l.groups) (drop l.item-index l.order))) ≡ least (flat_map (order_item_faults l.schema l.grouping l.groups) l.order)
