use Rattle.std.proofs.Common.{◌≡◌, sym, ap, ◌∙◌, inr, Some, None, rules}
use Rattle.cs_model.specs.Steps.{began, begin_reply}
use Rattle.txn_table.specs.Txns.{txn_of, depth_of}
use Rattle.group_directory.specs.Obstacles.{txn_in}
use Rattle.statement_core.specs.CoreState.{state_of}
use Rattle.statement_core.proofs.States.{deepened_began, begin_done}
use Rattle.statement_core.proofs.finish.begin.Goals as goal

pub returns-in_default-clause-settles : goal.returns-in_default-clause-settles
returns-in_default-clause-settles c = λ schema changes half.
    let none : txn_of c.args.held.now.directory.txns c.args.session ≡ None = search rules in
    record {
      reply = inr (sym (ap (λ o. begin_reply (txn_in o)) none));
      state = c.open.ensures.state changes ∙ ap (λ o. began (state_of changes c.args.held.now) c.args.session (txn_in o)) (sym none);
    }

pub returns-then-depth-lt-DEEPEST-clause-settles : goal.returns-then-depth-lt-DEEPEST-clause-settles
returns-then-depth-lt-DEEPEST-clause-settles c = λ schema changes half.
    let own = txn_of c.args.held.now.directory.txns c.args.session in
    let deep : depth_of own ≡ Some c.in-Some.depth = search rules in
    record {
      reply = inr (sym (begin_done own c.in-Some.depth deep c.if-depth-lt-DEEPEST.true));
      state = c.deepen.ensures.state changes ∙ deepened_began (state_of changes c.args.held.now) c.args.session own c.in-Some.depth deep;
    }
