use Rattle.std.proofs.Common.{◌≡◌, ◌+◌, ℕ, length}
use Rattle.batch_kernels.specs.Places.{places, sum_with, IsSumOf}
use Rattle.batch_kernels.proofs.sums.sum_chosen.Given as goal

abbrev pub invariant-loop-i : goal.invariant-loop-i
invariant-loop-i l = record {
  sum : l.all ≡ sum_with l.sum l.numbers (places l.mask l.i);
  bound : (n : ℕ) → IsSumOf n l.sum → IsSumOf (n + length (places l.mask l.i)) l.all;
}
