use Rattle.delete_buffer.proofs.TwoParts.{least-merged}
use Rattle.delete_buffer.proofs.ends.least_of.Goals as goal

pub returns : goal.returns
returns c =
    rw c.lesser.ensures
    (least-merged c.args.settled.now c.args.recent.now c.args.key c.args.begin c.least_end.result c.least_end-2.result c.least_end.ensures c.least_end-2.ensures)
