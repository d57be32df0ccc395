use Rattle.std.proofs.Common.{rules, ◌≡◌, All, true, subst, arith}
use Rattle.session_pool.specs.Rests.{HasRun}
use Rattle.session_pool.proofs.Closing.{rested_free, rested_after, runs_after}
use Rattle.session_pool.proofs.pool.run_last.Goals as goal

pub last_turns-requires-clause-free : goal.last_turns-requires-clause-free
last_turns-requires-clause-free g c κs within = rested_free c.args.movers 65 c.args.pass.own c.requires.rested (c.requires.first (omega (arith, c.if-movers-eq0.false)))

pub returns-clause-rested : goal.returns-clause-rested
returns-clause-rested g c =
    rested_after c.args.movers c.args.pass.own c.last_turns.result.0.own c.last_turns.result.0.seen (omega (arith, c.if-movers-eq0.false)) c.last_turns.ensures.others c.last_turns.ensures.told c.last_turns.ensures.free c.requires.rested

pub returns-clause-runs : goal.returns-clause-runs
returns-clause-runs g c =
    let runs : All (HasRun g.J.Made.lines true c.args.pass.own) g.J.Made.sessions = subst (λ b. All (HasRun g.J.Made.lines b c.args.pass.own) g.J.Made.sessions) (let w : c.args.whole ≡ true = search rules in w) c.requires.runs in
    runs_after g.J.Made.lines c.last_turns.result.1 g.J.Made.sessions c.args.pass.own c.last_turns.result.0.own c.requires.below c.last_turns.ensures.others runs
