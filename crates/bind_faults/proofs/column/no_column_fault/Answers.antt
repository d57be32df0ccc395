use Rattle.std.proofs.Common.{ap, ◌∙◌, arith}
use Rattle.bind_faults.specs.Least.{earlier}
use Rattle.bind_faults.specs.Families.{unknown_column}
use Rattle.bind_faults.proofs.Leasts.{one_more}
use Rattle.bind_faults.proofs.column.no_column_fault.Goals as goal

pub loop-name-preserved : goal.loop-name-preserved
loop-name-preserved c =
    one_more (unknown_column c.args.schema.now) c.args.names.now c.loop-name.name-index c.name-item.result c.loop-name.found c.earlier-found.result _ (omega arith) c.name-item.is
    (c.earlier-found.ensures ∙ ap (earlier c.loop-name.found) c.unknown_column.ensures) c.loop-name.invariant
