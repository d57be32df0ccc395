use Rattle.std.proofs.Common.{◌+◌, ◌-◌}
use Rattle.session_pool.proofs.threads.+movers_from.Given as goal

abbrev pub decreases-movers_from : goal.decreases-movers_from
decreases-movers_from g l = (66 + l.movers) - l.number
