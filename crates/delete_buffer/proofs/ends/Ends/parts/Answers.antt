use Rattle.delete_buffer.proofs.TwoParts.{in_order-merged}
use Rattle.delete_buffer.proofs.ends.Ends.parts.Goals as goal

pub returns-clause-order : goal.returns-clause-order
returns-clause-order c = rw (← c.self.view_is) (in_order-merged c.self.inside.settled.value.items c.self.inside.recent.items c.self.invariant)
