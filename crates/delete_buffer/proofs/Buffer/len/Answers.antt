use Rattle.std.proofs.Common.{arith}
use Rattle.delete_buffer.proofs.TwoParts.{length-merged}
use Rattle.delete_buffer.proofs.Buffer.len.Goals as goal

pub returns : goal.returns
returns c = rw (← c.self.view_is) (omega (arith, length-merged c.self.inside.settled.items c.self.inside.recent.items))
