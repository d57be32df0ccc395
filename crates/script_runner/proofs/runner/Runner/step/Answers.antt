use Rattle.std.proofs.Common.{sym, subst}
use Rattle.cs_model.specs.State.{begin_of}
use Rattle.statement_core.specs.Seats.{seat}
use Rattle.script_runner.specs.Running.{Waits}
use Rattle.script_runner.proofs.runner.Runner.step.Goals as goal

pub invariant_of-self : goal.invariant_of-self
invariant_of-self g c = (
  subst (λ z. Waits z (begin_of c.run_step.new.core.schema) c.run_step.new.core.log (seat c.run_step.new.waiting.started)) (sym c.run_step.ensures.sizes)
      (subst (λ s. Waits c.self.inside.core.sizes (begin_of s) c.run_step.new.core.log (seat c.run_step.new.waiting.started)) (sym c.run_step.ensures.schema) c.run_step.ensures.waits),
  c.run_step.ensures.ready,
)
