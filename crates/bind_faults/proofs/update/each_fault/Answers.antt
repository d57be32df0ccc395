use Rattle.std.proofs.Common.{ap, ◌∙◌, arith}
use Rattle.bind_faults.specs.Least.{earlier}
use Rattle.bind_faults.specs.Updates.{set_faults}
use Rattle.bind_faults.proofs.Leasts.{one_more}
use Rattle.bind_faults.proofs.update.each_fault.Goals as goal

pub loop-set-preserved : goal.loop-set-preserved
loop-set-preserved c =
    one_more (set_faults c.args.schema.now) c.args.sets.now c.loop-set.set-index c.set-item.result c.loop-set.found c.earlier-found.result _ (omega arith) c.set-item.is
    (c.earlier-found.ensures ∙ ap (earlier c.loop-set.found) c.set_fault.ensures) c.loop-set.invariant
