use Rattle.std.proofs.Common.{◌∙◌, sym, subst, Contains, get_or}
use Rattle.script_runner.proofs.Endings.{ending_more, going_at}
use Rattle.script_runner.proofs.run.end_sessions.Goals as goal

pub end-requires-clause-known : goal.end-requires-clause-known
end-requires-clause-known c =
    subst (λ served. Contains served (get_or c.args.sessions.now c.loop-session.session-index 0)) (sym c.loop-session.invariant.sessions) (c.requires.known c.loop-session.session-index 0 c.loop-session-test.true)

pub end-requires-clause-going : goal.end-requires-clause-going
end-requires-clause-going c = going_at c.args.runner.now.log c.loop-session.runner.log c.args.sessions.now c.loop-session.session-index c.loop-session-test.true c.loop-session.invariant.ending

pub loop-session-preserved : goal.loop-session-preserved
loop-session-preserved c =
    record {
      schema = c.end.ensures.schema ∙ c.loop-session.invariant.schema;
      sizes = c.end.ensures.sizes ∙ c.loop-session.invariant.sizes;
      sessions = c.end.ensures.sessions ∙ c.loop-session.invariant.sessions;
      claims = c.end.ensures.claims ∙ c.loop-session.invariant.claims;
      ending = ending_more c.args.runner.now.log c.loop-session.runner.log c.end.new.self.log c.args.sessions.now c.loop-session.session-index c.loop-session-test.true c.loop-session.invariant.ending c.end.ensures.log;
    }
