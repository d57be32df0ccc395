use Rattle.std.proofs.Common.{refl, ap}
use Rattle.txn_table.specs.Txns.{txn_of, deepened}
use Rattle.group_directory.specs.declared.directory.Directory.{Directory}
use Rattle.statement_core.proofs.States.{state_with}
use Rattle.statement_core.proofs.core_state.deepen.Goals as goal

pub returns-clause-state : goal.returns-clause-state
returns-clause-state c = λ changes.
    state_with changes c.args.held.now (record c.args.held.now { directory = c.deepen.new.self }) c.args.session (deepened c.args.depth (txn_of c.args.held.now.directory.txns c.args.session)) refl refl (ap (λ (d : Directory). d.clock) c.deepen.ensures.rest) c.deepen.ensures.txns c.deepen.ensures.next
