use Rattle.cs_model.specs.State.{begin_of}
use Rattle.statement_core.specs.Seats.{seat}
use Rattle.script_runner.proofs.Claims.{ready_first}
use Rattle.script_runner.proofs.Waiting.{waits_first}
use Rattle.script_runner.proofs.runner.Runner.new.Goals as goal

pub invariant_of-result : goal.invariant_of-result
invariant_of-result c = (
  waits_first c.args.core.sizes (begin_of c.args.core.schema) c.args.core.log (seat c.in_ok-new.field-0) c.requires.log,
  ready_first c.args.core.claims (seat c.in_ok-new-2.field-0) c.requires.claims c.in_ok-new-2.ensures,
)
