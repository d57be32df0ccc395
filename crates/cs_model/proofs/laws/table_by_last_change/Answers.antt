use Rattle.cs_model.proofs.Tables.{table_ascends, row_is}
use Rattle.cs_model.proofs.laws.table_by_last_change.Goals as goal

pub returns-clause-ascends : goal.returns-clause-ascends
returns-clause-ascends c = λ changes s. table_ascends changes s

pub returns-clause-rows : goal.returns-clause-rows
returns-clause-rows c = λ changes s key. row_is changes s key
