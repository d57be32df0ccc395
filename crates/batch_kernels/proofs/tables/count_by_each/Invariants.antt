use Rattle.std.proofs.Common.{◌≡◌, ◌+◌, ◌-◌, ◌<◌, ◌≤◌, ℕ, length, slice_index}
use Rattle.batch_kernels.specs.Places.{places_with}
use Rattle.batch_kernels.proofs.tables.count_by_each.Given as goal

abbrev pub invariant-loop-from : goal.invariant-loop-from
invariant-loop-from l = record {
  same : length l.counts ≡ length l.initial.counts;
  within : l.from ≤ l.count;
  counts : (k : ℕ) → k < length l.initial.counts → slice_index l.counts k ≡ slice_index l.initial.counts k + length (places_with l.mask (slice_index l.keys) k l.from);
}

abbrev pub decreases-loop-from : goal.decreases-loop-from
decreases-loop-from l = l.count - l.from
