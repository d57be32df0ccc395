use Rattle.delete_buffer.proofs.Changes.{settled_parts}
use Rattle.delete_buffer.proofs.TwoParts.{in_order-merged}
use Rattle.delete_buffer.proofs.Buffer.settle.Goals as goal

pub invariant_of-self-then-are_many : goal.invariant_of-self-then-are_many
invariant_of-self-then-are_many c =
    rw (c.in_ok-settle.ensures.settled, c.in_ok-settle.ensures.recent, c.forget.ensures) (record {
      parts = settled_parts _ (in_order-merged c.self.inside.settled.items c.self.inside.recent.items c.self.invariant.parts);
      shared_same = tt;
      shown_same = c.self.invariant.shown_same;
    })
