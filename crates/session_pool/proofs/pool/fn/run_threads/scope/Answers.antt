use Rattle.session_pool.proofs.Starting.{spare_first, sessions_first}
use Rattle.session_pool.proofs.pool.fn.run_threads.scope.Goals as goal

pub movers_from-requires-clause-spare : goal.movers_from-requires-clause-spare
movers_from-requires-clause-spare g c κs within = spare_first c.captures.pass.reserve c.requires.4

pub movers_from-requires-clause-sessions : goal.movers_from-requires-clause-sessions
movers_from-requires-clause-sessions g c κs within = sessions_first c.captures.shared.now.script.now g.J.Made.sessions c.captures.pass.reserve c.requires.1.runnable c.requires.1.sessions_are c.requires.4
