use Rattle.std.proofs.Common.{◌≡◌, drop}
use Rattle.std.specs.List.{flat_map}
use Rattle.bind_faults.specs.Least.{earlier, least}
use Rattle.bind_faults.specs.Predicates.{part_faults, conj_faults, pred_faults}
use Rattle.bind_faults.proofs.pred.+pred.Given as goal

abbrev pub invariant-conj_fault-loop-neg : goal.invariant-conj_fault-loop-neg
invariant-conj_fault-loop-neg l =
    earlier l.found (least (flat_map (λ n. part_faults l.schema n.part) (drop l.neg-index l.neg-items))) ≡ least (conj_faults l.schema l.conj)

abbrev pub invariant-pred_fault-loop-conj : goal.invariant-pred_fault-loop-conj
invariant-pred_fault-loop-conj l =
    earlier l.found (least (flat_map (conj_faults l.schema) (drop l.conj-index l.conj-items))) ≡ least (pred_faults l.schema l.pred)
