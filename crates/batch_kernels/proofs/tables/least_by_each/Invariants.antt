use Rattle.std.proofs.Common.{◌≡◌, ◌-◌, ◌<◌, ◌≤◌, ℕ, length, slice_index}
use Rattle.batch_kernels.specs.Places.{places_with, least_with}
use Rattle.batch_kernels.proofs.tables.least_by_each.Given as goal

abbrev pub invariant-loop-from : goal.invariant-loop-from
invariant-loop-from l = record {
  same : length l.least ≡ length l.initial.least;
  within : l.from ≤ l.count;
  least : (k : ℕ) → k < length l.initial.least → slice_index l.least k ≡ least_with (slice_index l.initial.least k) l.codes (places_with l.mask (slice_index l.keys) k l.from);
}

abbrev pub decreases-loop-from : goal.decreases-loop-from
decreases-loop-from l = l.count - l.from
