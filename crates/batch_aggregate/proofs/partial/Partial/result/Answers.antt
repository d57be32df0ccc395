use Rattle.std.proofs.Common.{subst}
use Rattle.cs_model.specs.Queries.{Gives}
use Rattle.batch_aggregate.proofs.Stands.{answered}
use Rattle.batch_aggregate.proofs.partial.Partial.result.Goals as goal

pub returns-then-query : goal.returns-then-query
returns-then-query c = λ rows stands. subst (Gives c.grouped_answer.result) (answered c.args.self rows c.if-query.true stands) c.grouped_answer.ensures
