use Rattle.std.proofs.Common.{ap, ◌∙◌, arith}
use Rattle.bind_faults.specs.Least.{earlier, least}
use Rattle.bind_faults.specs.Values.{expr_faults}
use Rattle.bind_faults.proofs.Rows.{one_more_value}
use Rattle.bind_faults.proofs.insert.values_fault.Goals as goal

pub loop-i-preserved : goal.loop-i-preserved
loop-i-preserved c =
    one_more_value c.args.schema.now c.loop-i.i c.loop-i.found c.earlier-found.result _ c.args.scope c.args.names.now c.args.values.now c.index-values-i.result (omega arith) c.index-values-i.is
    (c.earlier-found.ensures ∙ ap (earlier c.loop-i.found) (c.expr_fault.ensures ∙ ap (λ z. least (expr_faults c.args.schema.now c.args.scope z c.index-values-i.result)) c.target-kind.ensures)) c.loop-i.invariant
