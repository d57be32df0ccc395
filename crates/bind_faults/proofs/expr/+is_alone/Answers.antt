use Rattle.bind_faults.proofs.Within.{longer_sum, longer_product}
use Rattle.bind_faults.proofs.expr.+is_alone.Goals as goal

pub returns-then-not-is_empty : goal.returns-then-not-is_empty
returns-then-not-is_empty t c = longer_sum c.args.expr.now c.is_empty.result c.if-not-is_empty.true c.is_empty.ensures

pub returns-then-not-is_empty-2 : goal.returns-then-not-is_empty-2
returns-then-not-is_empty-2 t c = longer_product c.args.expr.now c.is_empty-2.result c.if-not-is_empty-2.true c.is_empty-2.ensures
