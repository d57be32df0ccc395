use Rattle.std.proofs.Common.{◌≡◌, ℕ, ◌<◌, ◌≤◌, Ok}
use Rattle.cs_types.specs.declared.Loose.TheVariants.{Number}
use Rattle.cs_model.specs.Expressions.{signed}
use Rattle.batch_compute.specs.Values.{at}
use Rattle.batch_compute.proofs.each.sign_each.Given as goal

abbrev pub invariant-loop-number : goal.invariant-loop-number
invariant-loop-number l = record {
  done : (k : ℕ) → k < l.number-index → signed l.minus (at l.fn.numbers k) ≡ Ok (Number (at l.numbers k) 0);
  left : (k : ℕ) → l.number-index ≤ k → at l.numbers k ≡ at l.fn.numbers k;
}
