use Rattle.std.proofs.Common.{refl}
use Rattle.statement_core.proofs.States.{state_set}
use Rattle.statement_core.proofs.Stills.{still_same}
use Rattle.statement_core.proofs.core_state.set_statistics.Goals as goal

pub returns-clause-state : goal.returns-clause-state
returns-clause-state c = λ changes. state_set changes c.args.held.now _ c.args.session c.args.on c.set.ensures.after

pub returns-clause-still : goal.returns-clause-still
returns-clause-still c = still_same c.args.held.now (record c.args.held.now { settings = c.set.new.self }) refl
