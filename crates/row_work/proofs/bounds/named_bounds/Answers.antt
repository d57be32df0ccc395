use Rattle.std.proofs.Common.{refl}
use Rattle.row_work.proofs.Bounded.{among_all}
use Rattle.row_work.proofs.Constants.{key_small}
use Rattle.row_work.proofs.bounds.named_bounds.Goals as goal

pub returns-in-None : goal.returns-in-None
returns-in-None c = λ key row stands kept. among_all _ key refl refl (key_small c.args.schema.now key row c.requires stands)
