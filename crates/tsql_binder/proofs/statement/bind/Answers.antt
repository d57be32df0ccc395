use Rattle.std.proofs.Common.{◌≡◌, rules}
use Rattle.std.specs.Prelude.{Ok}
use Rattle.tsql_binder.specs.Meaning.{bound_of}
use Rattle.tsql_binder.proofs.Ready.{bound_ready}
use Rattle.tsql_binder.proofs.statement.bind.Goals as goal

pub returns-in_ok-plan_of-in-None-clause-ready : goal.returns-in_ok-plan_of-in-None-clause-ready
returns-in_ok-plan_of-in-None-clause-ready c =
    let bound = c.in_ok-plan_of-in-None.field-0 in
    let gives : bound_of c.args.schema.now c.args.statement.now ≡ Ok bound = search rules in
    bound_ready c.args.schema.now c.args.statement.now bound gives
