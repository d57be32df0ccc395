use Rattle.std.proofs.Common.{sym}
use Rattle.session_pool.proofs.Events.{entries_are}
use Rattle.session_pool.proofs.pooled.Pooled.into_core.Goals as goal

pub returns-clause-log : goal.returns-clause-log
returns-clause-log g c = let p = c.self.inside in sym (entries_are p.lent.items p.core.log c.args.self c.self.view_is)
