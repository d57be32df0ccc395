use Rattle.std.proofs.Common.{ℕ, ◌≤◌}
use Rattle.segment_value.specs.Scales.{Divides}
use Rattle.segment_value.proofs.exponent_up_to.Given as goal

abbrev pub invariant-loop-exponent : goal.invariant-loop-exponent
invariant-loop-exponent l = (l.exponent ≤ l.most) × ((e : ℕ) → e ≤ l.most → Divides e l.number → e ≤ l.exponent)

abbrev pub decreases-loop-exponent : goal.decreases-loop-exponent
decreases-loop-exponent l = l.exponent
