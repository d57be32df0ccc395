use Rattle.row_work.proofs.KeptRange.{among_both}
use Rattle.row_work.proofs.bounds.meet.Goals as goal

pub returns : goal.returns
returns c = λ key. among_both c.args.a c.args.b c.max.result c.min.result key c.max.ensures c.min.ensures
