use Rattle.std.proofs.Common.{ap, ◌∙◌, arith}
use Rattle.bind_faults.specs.Least.{earlier}
use Rattle.bind_faults.specs.Predicates.{part_faults, conj_faults}
use Rattle.bind_faults.proofs.Leasts.{least_append, one_more}
use Rattle.bind_faults.proofs.Parts.{conj_parts, pred_parts}
use Rattle.bind_faults.proofs.pred.+pred.Goals as goal

pub conj_fault-loop-neg-init : goal.conj_fault-loop-neg-init
conj_fault-loop-neg-init t c = rw (c.part_fault-found.ensures, c.as_slice-neg-items.ensures, conj_parts, least_append)

pub conj_fault-loop-neg-preserved : goal.conj_fault-loop-neg-preserved
conj_fault-loop-neg-preserved t c =
    one_more (λ n. part_faults c.args.schema.now n.part) c.as_slice-neg-items.result.now c.loop-neg.neg-index c.neg-item.result c.loop-neg.found c.earlier-found.result _ (omega arith) c.neg-item.is
    (c.earlier-found.ensures ∙ ap (earlier c.loop-neg.found) c.part_fault.ensures) c.loop-neg.invariant

pub pred_fault-loop-conj-init : goal.pred_fault-loop-conj-init
pred_fault-loop-conj-init t c = rw (c.conj_fault-found.ensures, c.as_slice-conj-items.ensures, pred_parts, least_append)

pub pred_fault-loop-conj-preserved : goal.pred_fault-loop-conj-preserved
pred_fault-loop-conj-preserved t c =
    one_more (conj_faults c.args.schema.now) c.as_slice-conj-items.result.now c.loop-conj.conj-index c.conj-item.result c.loop-conj.found c.earlier-found.result _ (omega arith) c.conj-item.is
    (c.earlier-found.ensures ∙ ap (earlier c.loop-conj.found) c.conj_fault.ensures) c.loop-conj.invariant
