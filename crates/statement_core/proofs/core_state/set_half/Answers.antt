use Rattle.statement_core.proofs.States.{state_half}
use Rattle.statement_core.proofs.core_state.set_half.Goals as goal

pub returns-clause-state : goal.returns-clause-state
returns-clause-state c = λ changes. state_half changes c.args.held.now _ c.args.session c.args.half c.set.ensures.after
