use Rattle.std.proofs.Common.{refl, ap, None}
use Rattle.group_directory.specs.declared.directory.Directory.{Directory}
use Rattle.statement_core.proofs.States.{state_with}
use Rattle.statement_core.proofs.core_state.roll_back.Goals as goal

pub returns-clause-state : goal.returns-clause-state
returns-clause-state c = λ changes.
    state_with changes c.args.held.now (record c.args.held.now { directory = c.rollback.new.self }) c.args.session None refl refl (ap (λ (d : Directory). d.clock) c.rollback.ensures.rest) c.rollback.ensures.txns c.rollback.ensures.next
