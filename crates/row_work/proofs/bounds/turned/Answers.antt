use Rattle.cs_model.specs.declared.pred.Relation.TheVariants as relation
use Rattle.row_work.proofs.Bounded.{compare_turned, equal_back, greater_back, greater_equal_back, less_back, less_equal_back, not_equal_back}
use Rattle.row_work.proofs.bounds.turned.Goals as goal

pub returns-in-Less : goal.returns-in-Less
returns-in-Less c = rw c.in-Less.is (compare_turned relation.Less relation.Greater less_back)

pub returns-in-LessEqual : goal.returns-in-LessEqual
returns-in-LessEqual c = rw c.in-LessEqual.is (compare_turned relation.LessEqual relation.GreaterEqual less_equal_back)

pub returns-in-Greater : goal.returns-in-Greater
returns-in-Greater c = rw c.in-Greater.is (compare_turned relation.Greater relation.Less greater_back)

pub returns-in-GreaterEqual : goal.returns-in-GreaterEqual
returns-in-GreaterEqual c = rw c.in-GreaterEqual.is (compare_turned relation.GreaterEqual relation.LessEqual greater_equal_back)

pub returns-in-Equal : goal.returns-in-Equal
returns-in-Equal c = rw c.in-Equal.is (compare_turned relation.Equal relation.Equal equal_back)

pub returns-in-NotEqual : goal.returns-in-NotEqual
returns-in-NotEqual c = rw c.in-NotEqual.is (compare_turned relation.NotEqual relation.NotEqual not_equal_back)
