use Rattle.std.proofs.Common.{◌≡◌, drop}
use Rattle.std.specs.List.{flat_map}
use Rattle.bind_faults.specs.Least.{earlier, least}
use Rattle.bind_faults.specs.Values.{within_expr, within_term, within_primary}
use Rattle.bind_faults.proofs.expr.+within.Given as goal

abbrev pub invariant-term_fault-loop-part : goal.invariant-term_fault-loop-part
invariant-term_fault-loop-part l =
    earlier l.found (least (flat_map (λ p. within_primary l.schema l.setting p.1.primary) (drop l.part-index l.part-items))) ≡ least (within_term l.schema l.setting l.term)

abbrev pub invariant-within_fault-loop-part : goal.invariant-within_fault-loop-part
invariant-within_fault-loop-part l =
    earlier l.found (least (flat_map (λ p. within_term l.schema l.setting p.1) (drop l.part-index l.part-items))) ≡ least (within_expr l.schema l.setting l.expr)
