use Rattle.row_work.proofs.Places.{in_order_is}
use Rattle.row_work.proofs.by_key.in_order.Goals as goal

pub returns-clause-order : goal.returns-clause-order
returns-clause-order c = λ flags these. in_order_is c.args.positions.items c.sort_unstable.new.self.items flags these c.sort_unstable.ensures.permutation c.sort_unstable.ensures.sorted
