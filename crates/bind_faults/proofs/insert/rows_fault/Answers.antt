use Rattle.std.proofs.Common.{ap, ◌∙◌, arith}
use Rattle.bind_faults.specs.Least.{earlier}
use Rattle.bind_faults.specs.Inserts.{row_faults}
use Rattle.bind_faults.proofs.Leasts.{one_more}
use Rattle.bind_faults.proofs.insert.rows_fault.Goals as goal

pub loop-row-preserved : goal.loop-row-preserved
loop-row-preserved c =
    one_more (row_faults c.args.schema.now c.args.names.now) c.args.rows.now c.loop-row.row-index c.row-item.result c.loop-row.found c.earlier-found.result _ (omega arith) c.row-item.is
    (c.earlier-found.ensures ∙ ap (earlier c.loop-row.found) c.row_fault.ensures) c.loop-row.invariant
