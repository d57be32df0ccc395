use Rattle.session_pool.proofs.Histories.{whole_run_of, front_run_of}
use Rattle.session_pool.proofs.pool.core_of.Goals as goal

pub returns-clause-whole : goal.returns-clause-whole
returns-clause-whole g c =
    whole_run_of g.J.Made.schema g.J.Made.sizes g.J.Made.sessions g.J.Made.lines c.args.script.now c.requires.script c.into_core-core.result c.args.pooled c.into_core-core.ensures.pool c.into_core-core.ensures.log
    c.log-log.ensures.followed c.log-log.ensures.counted c.log-log.ensures.reorganized c.log-log.ensures.claims

pub returns-clause-front : goal.returns-clause-front
returns-clause-front g c =
    front_run_of g.J.Made.schema g.J.Made.sizes g.J.Made.sessions g.J.Made.lines c.args.script.now c.requires.script c.into_core-core.result c.args.pooled c.into_core-core.ensures.pool c.into_core-core.ensures.log
    c.log-log.ensures.followed c.log-log.ensures.counted c.log-log.ensures.reorganized c.log-log.ensures.claims
