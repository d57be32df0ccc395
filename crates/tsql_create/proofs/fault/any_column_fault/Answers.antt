use Rattle.std.proofs.Common.{ap, ◌∙◌, arith}
use Rattle.tsql_exprs.specs.Leftmost.{earlier}
use Rattle.tsql_create.proofs.Leftmost.{column_step}
use Rattle.tsql_create.proofs.fault.any_column_fault.Goals as goal

pub loop-column-preserved : goal.loop-column-preserved
loop-column-preserved c =
    column_step c.args.columns.now c.loop-column.column-index c.column-item.result c.loop-column.found c.earlier-found.result _ (omega arith) c.column-item.is
    (c.earlier-found.ensures ∙ ap (earlier c.loop-column.found) c.column_fault.ensures) c.loop-column.invariant
