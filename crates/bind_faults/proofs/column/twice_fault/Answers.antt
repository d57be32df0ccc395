use Rattle.std.proofs.Common.{map, ap, ◌∙◌, arith}
use Rattle.bind_faults.specs.Least.{earlier}
use Rattle.bind_faults.specs.Columns.{again_faults}
use Rattle.bind_faults.proofs.Leasts.{one_more}
use Rattle.bind_faults.proofs.column.twice_fault.Goals as goal

pub loop-column-preserved : goal.loop-column-preserved
loop-column-preserved g c =
    one_more (again_faults (map g.T.Named.name_of c.args.named.now)) c.as_slice-column-items.result.now c.loop-column.column-index c.column-item.result c.loop-column.found c.earlier-found.result _ (omega arith) c.column-item.is
    (c.earlier-found.ensures ∙ ap (earlier c.loop-column.found) c.again_fault.ensures) c.loop-column.invariant
