use Rattle.std.proofs.Common.{ap, ◌∙◌, arith}
use Rattle.bind_faults.specs.Least.{earlier}
use Rattle.bind_faults.specs.Queries.{order_item_faults}
use Rattle.bind_faults.proofs.Leasts.{one_more}
use Rattle.bind_faults.proofs.query.order_list_fault.Goals as goal

pub loop-item-preserved : goal.loop-item-preserved
loop-item-preserved c =
    one_more (order_item_faults c.args.schema.now c.args.grouping c.args.groups.now) c.args.order.now c.loop-item.item-index c.item-item.result c.loop-item.found c.earlier-found.result _ (omega arith) c.item-item.is
    (c.earlier-found.ensures ∙ ap (earlier c.loop-item.found) c.name_fault-next.ensures) c.loop-item.invariant
