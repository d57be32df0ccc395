use Rattle.std.proofs.Common.{◌≡◌, ◌-◌, ◌<◌, ◌≤◌, ℕ, length, slice_index}
use Rattle.batch_kernels.specs.Places.{places_with, greatest_with}
use Rattle.batch_kernels.proofs.tables.greatest_by_each.Given as goal

abbrev pub invariant-loop-from : goal.invariant-loop-from
invariant-loop-from l = record {
  same : length l.greatest ≡ length l.initial.greatest;
  within : l.from ≤ l.count;
  greatest : (k : ℕ) → k < length l.initial.greatest → slice_index l.greatest k ≡ greatest_with (slice_index l.initial.greatest k) l.codes (places_with l.mask (slice_index l.keys) k l.from);
}

abbrev pub decreases-loop-from : goal.decreases-loop-from
decreases-loop-from l = l.count - l.from
