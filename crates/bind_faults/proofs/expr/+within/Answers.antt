use Rattle.std.proofs.Common.{ap, ◌∙◌, arith}
use Rattle.bind_faults.specs.Least.{earlier}
use Rattle.bind_faults.specs.Values.{within_term, within_primary}
use Rattle.bind_faults.proofs.Leasts.{least_append, one_more}
use Rattle.bind_faults.proofs.Within.{term_parts, expr_parts}
use Rattle.bind_faults.proofs.expr.+within.Goals as goal

pub term_fault-loop-part-init : goal.term_fault-loop-part-init
term_fault-loop-part-init t c =
    rw (c.primary_fault-found.ensures, c.as_slice-part-items.ensures, term_parts, least_append)

pub term_fault-loop-part-preserved : goal.term_fault-loop-part-preserved
term_fault-loop-part-preserved t c =
    one_more (λ p. within_primary c.args.schema.now c.args.setting p.1.primary) c.as_slice-part-items.result.now c.loop-part.part-index c.part-item.result c.loop-part.found c.earlier-found.result _ (omega arith) c.part-item.is
    (c.earlier-found.ensures ∙ ap (earlier c.loop-part.found) c.primary_fault.ensures) c.loop-part.invariant

pub within_fault-loop-part-init : goal.within_fault-loop-part-init
within_fault-loop-part-init t c =
    rw (c.term_fault-found.ensures, c.as_slice-part-items.ensures, expr_parts, least_append)

pub within_fault-loop-part-preserved : goal.within_fault-loop-part-preserved
within_fault-loop-part-preserved t c =
    one_more (λ p. within_term c.args.schema.now c.args.setting p.1) c.as_slice-part-items.result.now c.loop-part.part-index c.part-item.result c.loop-part.found c.earlier-found.result _ (omega arith) c.part-item.is
    (c.earlier-found.ensures ∙ ap (earlier c.loop-part.found) c.term_fault.ensures) c.loop-part.invariant
