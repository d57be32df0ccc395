use Rattle.std.proofs.Common.{◌≡◌, ◌+◌, ◌-◌, ◌<◌, ◌≤◌, ℕ, pos, length, slice_index}
use Rattle.std.specs.Prelude.{slice_index_or}
use Rattle.batch_kernels.specs.Places.{places_with, sum_with, IsSumOf}
use Rattle.batch_kernels.proofs.tables.sum_by_each.Given as goal

abbrev pub invariant-loop-from : goal.invariant-loop-from
invariant-loop-from l = record {
  same : length l.sums ≡ length l.initial.sums;
  within : l.from ≤ l.count;
  sums : (k : ℕ) → k < length l.initial.sums → slice_index_or l.sums k (pos 0) ≡ sum_with (slice_index_or l.initial.sums k (pos 0)) l.numbers (places_with l.mask (slice_index l.keys) k l.from);
  bound : (k n : ℕ) → k < length l.initial.sums → IsSumOf n (slice_index_or l.initial.sums k (pos 0)) → IsSumOf (n + length (places_with l.mask (slice_index l.keys) k l.from)) (slice_index_or l.sums k (pos 0));
}

abbrev pub decreases-loop-from : goal.decreases-loop-from
decreases-loop-from l = l.count - l.from
