use Rattle.std.proofs.Common.{ap, ◌∙◌, arith}
use Rattle.bind_faults.specs.Least.{earlier}
use Rattle.bind_faults.specs.Predicates.{beside_faults}
use Rattle.bind_faults.proofs.Leasts.{one_more}
use Rattle.bind_faults.proofs.atom.list_fault.Goals as goal

pub loop-literal-preserved : goal.loop-literal-preserved
loop-literal-preserved c =
    one_more (beside_faults c.args.column c.args.at) c.args.list.now c.loop-literal.literal-index c.literal-item.result c.loop-literal.found c.earlier-found.result _ (omega arith) c.literal-item.is
    (c.earlier-found.ensures ∙ ap (earlier c.loop-literal.found) c.beside_fault.ensures) c.loop-literal.invariant
