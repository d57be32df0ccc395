use Rattle.std.proofs.Common.{◌∙◌, [], refl, sym, subst, take}
use Rattle.cs_types.specs.Schemas.{IsSchema}
use Rattle.group_log.specs.Followed.{ground_of}
use Rattle.script_runner.specs.Running.{IsFrontRun}
use Rattle.script_runner.specs.Schedule.{ArePieces}
use Rattle.script_runner.proofs.Steps.{running_first, next_at, step_more, at_err}
use Rattle.script_runner.proofs.run.run_steps.Goals as goal
use Rattle.statement_core.specs.CoreValue.{CoreValue}

pub loop-step-init : goal.loop-step-init
loop-step-init g c = record {
  schema = refl;
  sizes = refl;
  sessions = refl;
  running = running_first (ground_of c.args.runner.now.schema c.args.runner.now.sizes) c.args.runner.now c.args.steps.now c.requires.empty c.requires.free c.requires.steps.paired;
}

pub step-requires-clause-schema : goal.step-requires-clause-schema
step-requires-clause-schema g c κs within = let kept = c.loop-step.invariant in subst IsSchema (sym kept.schema) c.requires.schema

pub step-requires-clause-may : goal.step-requires-clause-may
step-requires-clause-may g c κs within =
    let kept = c.loop-step.invariant in
    next_at (ground_of c.args.runner.now.schema c.args.runner.now.sizes) c.args.steps.now c.loop-step.step-index c.step-item.result c.loop-step-test.true c.step-item.is c.loop-step.runner kept.running c.args.runner.now.sessions kept.sessions c.requires.steps

pub loop-step-preserved : goal.loop-step-preserved
loop-step-preserved g c =
    let kept = c.loop-step.invariant in
    record {
      schema = c.step.ensures.schema ∙ kept.schema;
      sizes = c.step.ensures.sizes ∙ kept.sizes;
      sessions = c.step.ensures.sessions ∙ kept.sessions;
      running = step_more (ground_of c.args.runner.now.schema c.args.runner.now.sizes) c.args.steps.now c.loop-step.step-index c.step-item.result c.loop-step-test.true c.step-item.is c.loop-step.runner kept.running
          (ground_of c.loop-step.runner.schema c.loop-step.runner.sizes) c.step.new.self (λ i. ground_of (kept.schema i) (kept.sizes i)) c.in_ok-step.ensures.piece c.in_ok-step.ensures.claims;
    }

pub returns-in_err-step-clause-front : goal.returns-in_err-step-clause-front
returns-in_err-step-clause-front g c =
    let origin = ground_of c.args.runner.now.schema c.args.runner.now.sizes in
    at_err (IsFrontRun origin c.args.steps.now c.step.new.self.log) c.from_residual.result
    (c.loop-step.step-index, subst (λ (core : CoreValue). ArePieces origin [] (take c.loop-step.step-index c.args.steps.now) core.log) (sym c.in_err-step.ensures.err) c.loop-step.invariant.running.pieces)
