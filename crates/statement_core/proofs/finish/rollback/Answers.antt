use Rattle.std.proofs.Common.{sym, inr, rules}
use Rattle.std.specs.Prelude.{IsSome}
use Rattle.txn_table.specs.Txns.{txn_of}
use Rattle.statement_core.proofs.States.{done_some}
use Rattle.statement_core.proofs.finish.rollback.Goals as goal

pub returns-clause-settles : goal.returns-clause-settles
returns-clause-settles c = λ schema changes half.
    let there : IsSome (txn_of c.args.held.now.directory.txns c.args.session) = search rules in
    record {
      reply = inr (sym (done_some (txn_of c.args.held.now.directory.txns c.args.session) 3903 there));
      state = c.roll_back.ensures.state changes;
    }
