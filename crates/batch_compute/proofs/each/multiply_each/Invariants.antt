use Rattle.std.proofs.Common.{◌≡◌, ℕ, ◌<◌, ◌≤◌, Ok}
use Rattle.cs_types.specs.declared.Loose.TheVariants.{Number}
use Rattle.cs_model.specs.Expressions.{product}
use Rattle.batch_compute.specs.Values.{at}
use Rattle.batch_compute.proofs.each.multiply_each.Given as goal

abbrev pub invariant-loop-i : goal.invariant-loop-i
invariant-loop-i l = record {
  done : (k : ℕ) → k < l.i → product l.times (at l.fn.totals k) (at l.numbers k) ≡ Ok (Number (at l.totals k) 0);
  left : (k : ℕ) → l.i ≤ k → at l.totals k ≡ at l.fn.totals k;
}
