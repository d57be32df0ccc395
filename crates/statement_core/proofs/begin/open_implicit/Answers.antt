use Rattle.std.proofs.Common.{◌≡◌, ap, sym, ◌∙◌, None, rules}
use Rattle.txn_table.specs.Txns.{txn_of, own_of}
use Rattle.group_directory.specs.Obstacles.{txn_in}
use Rattle.statement_core.specs.CoreState.{state_of}
use Rattle.statement_core.proofs.States.{opens}
use Rattle.statement_core.proofs.begin.open_implicit.Goals as goal

pub returns-then-is_none-clause-state : goal.returns-then-is_none-clause-state
returns-then-is_none-clause-state c = λ changes.
    let none : txn_of c.args.held.now.directory.txns c.args.session ≡ None = search rules in
    c.open.ensures.state changes ∙ opens (state_of changes c.args.held.now) c.args.session (ap txn_in none)

pub returns-then-is_none-clause-own : goal.returns-then-is_none-clause-own
returns-then-is_none-clause-own c =
    let none : txn_of c.args.held.now.directory.txns c.args.session ≡ None = search rules in
    c.open.ensures.own ∙ sym (ap own_of none)
