use Rattle.std.proofs.Common.{length}
use Rattle.session_pool.proofs.threads.+sessions_from.Given as goal

abbrev pub decreases-sessions_from : goal.decreases-sessions_from
decreases-sessions_from g l = length l.sessions.now
