use Rattle.delete_buffer.proofs.Order.{IsLeastEnd-past}
use Rattle.delete_buffer.proofs.ends.least_end.Goals as goal

pub returns : goal.returns
returns c = rw c.end_at.ensures (IsLeastEnd-past c.args.entries.now c.args.key c.args.begin c.past.result c.requires c.past.ensures)
