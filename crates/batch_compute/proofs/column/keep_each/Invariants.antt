use Rattle.std.proofs.Common.{◌≡◌, ℕ, ◌<◌, ◌≤◌, Ok}
use Rattle.cs_types.specs.declared.Loose.TheVariants as loose
use Rattle.cs_types.specs.declared.Value.TheVariants.{Number}
use Rattle.cs_model.specs.Answers.{kept}
use Rattle.batch_compute.specs.Values.{at}
use Rattle.batch_compute.proofs.column.keep_each.Given as goal

abbrev pub invariant-loop-number : goal.invariant-loop-number
invariant-loop-number l = record {
  done : (k : ℕ) → k < l.number-index → kept l.column (Ok (loose.Number (at l.fn.numbers k) 0)) ≡ Ok (Number (at l.numbers k));
  left : (k : ℕ) → l.number-index ≤ k → at l.numbers k ≡ at l.fn.numbers k;
}
