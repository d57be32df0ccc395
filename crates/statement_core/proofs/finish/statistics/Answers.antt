use Rattle.std.proofs.Common.{refl, inr}
use Rattle.statement_core.proofs.finish.statistics.Goals as goal

pub returns-clause-settles : goal.returns-clause-settles
returns-clause-settles c = λ schema changes half. record { reply = inr refl; state = c.set_statistics.ensures.state changes }
