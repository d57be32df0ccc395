use Rattle.std.proofs.Common.{sym, subst, All, Contains}
use Rattle.cs_types.specs.Schemas.{IsSchema}
use Rattle.group_log.specs.Followed.{ground_of}
use Rattle.log_laws.specs.Laws.{AreDistinct}
use Rattle.script_runner.specs.Running.{AreRunnable, IsFrontRun}
use Rattle.script_turns.proofs.Sessions.{sessions_distinct}
use Rattle.script_runner.proofs.Steps.{all_rest, all_free, runnable_of, scheduled_of, front_of, at_err}
use Rattle.script_runner.proofs.run.run_script.Goals as goal

pub run_steps-requires-clause-schema : goal.run_steps-requires-clause-schema
run_steps-requires-clause-schema g c κs within = subst IsSchema (sym c.requires.schema) c.requires.runnable.schema

pub run_steps-requires-clause-steps : goal.run_steps-requires-clause-steps
run_steps-requires-clause-steps g c κs within =
    subst (AreRunnable c.args.runner.now.sessions) (sym c.as_slice.ensures) (runnable_of c.args.script.now c.args.runner.now.sessions c.requires.known c.requires.runnable)

pub end_sessions-requires : goal.end_sessions-requires
end_sessions-requires g c = record {
  known = subst (λ served. All (λ session. Contains served session) c.as_slice-2.result.now) (sym c.run_steps.ensures.sessions)
      (subst (All (λ session. Contains c.args.runner.now.sessions session)) (sym c.as_slice-2.ensures) c.requires.known);
  distinct = subst AreDistinct (sym c.as_slice-2.ensures) (sessions_distinct c.args.script.now c.requires.runnable);
  rests = all_rest (ground_of c.args.runner.now.schema c.args.runner.now.sizes) c.run_steps.new.runner c.as_slice.result.now c.in_ok-run_steps.ensures.ran;
  going = c.in_ok-run_steps.ensures.ran.going;
}

pub returns-clause-scheduled : goal.returns-clause-scheduled
returns-clause-scheduled g c =
    scheduled_of c.args.script.now c.args.runner.now.schema c.args.runner.now.sizes c.as_slice.result.now c.as_slice-2.result.now c.run_steps.new.runner c.end_sessions.new.runner.log
    c.requires.schema c.as_slice.ensures c.as_slice-2.ensures c.in_ok-run_steps.ensures.ran c.end_sessions.ensures.log

pub returns-clause-free : goal.returns-clause-free
returns-clause-free g c =
    all_free (ground_of c.args.runner.now.schema c.args.runner.now.sizes) c.run_steps.new.runner c.as_slice.result.now c.end_sessions.new.runner.claims c.in_ok-run_steps.ensures.ran c.end_sessions.ensures.claims

pub returns-in_err-run_steps-clause-front : goal.returns-in_err-run_steps-clause-front
returns-in_err-run_steps-clause-front g c =
    at_err (IsFrontRun (ground_of c.args.script.now.schema c.args.runner.now.sizes) c.args.script.now.lines c.run_steps.new.runner.log) c.from_residual.result
    (front_of c.args.script.now c.args.runner.now.schema c.args.runner.now.sizes c.as_slice.result.now c.run_steps.new.runner.log c.requires.schema c.as_slice.ensures c.in_err-run_steps.ensures.front)
