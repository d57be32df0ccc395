use Rattle.std.proofs.Common.{sym, subst}
use Rattle.cs_model.specs.State.{begin_of}
use Rattle.statement_core.specs.Seats.{seat}
use Rattle.script_runner.specs.Running.{AreReady, Waits}
use Rattle.script_runner.proofs.Waiting.{waits_end}
use Rattle.script_runner.proofs.runner.Runner.end.Goals as goal

pub invariant_of-self : goal.invariant_of-self
invariant_of-self c = (
  subst (λ z. Waits z (begin_of c.end.new.self.schema) c.end.new.self.log (seat c.self.inside.waiting.started)) (sym c.end.ensures.sizes)
      (subst (λ s. Waits c.self.inside.core.sizes (begin_of s) c.end.new.self.log (seat c.self.inside.waiting.started)) (sym c.end.ensures.schema)
      (waits_end c.self.inside.core.sizes (begin_of c.self.inside.core.schema) c.self.inside.core.log c.end.new.self.log c.args.session (seat c.self.inside.waiting.started) c.self.invariant.0 c.end.ensures.log)),
  subst (λ claims. AreReady claims (seat c.self.inside.waiting.lent)) (sym c.end.ensures.claims) c.self.invariant.1,
)
