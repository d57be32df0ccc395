use Rattle.write_set.proofs.InOrder.{result_rises}
use Rattle.write_set.proofs.Orders.{result_alike}
use Rattle.write_set.proofs.order.in_order.Goals as goal

pub returns-else-is_in_order-clause-alike : goal.returns-else-is_in_order-clause-alike
returns-else-is_in_order-clause-alike c = result_alike (λ v. v.items) c.args.writes.items c.sorted.result c.sorted.ensures

pub returns-else-is_in_order-clause-order : goal.returns-else-is_in_order-clause-order
returns-else-is_in_order-clause-order c = result_rises (λ v. v.items) c.args.writes.items c.sorted.result c.sorted.ensures
