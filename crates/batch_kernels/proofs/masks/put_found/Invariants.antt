use Rattle.std.proofs.Common.{◌≡◌, ◌<◌, ◌≤◌, ℕ, ◌||◌, false, length, slice_index_or}
use Rattle.batch_kernels.proofs.masks.put_found.Given as goal

abbrev pub invariant-loop-i : goal.invariant-loop-i
invariant-loop-i l = record {
  same : length l.found ≡ length l.initial.found;
  done : (k : ℕ) → k < l.i → slice_index_or l.found k false ≡ (slice_index_or l.initial.found k false || slice_index_or l.left k false);
  others : (k : ℕ) → l.i ≤ k → slice_index_or l.found k false ≡ slice_index_or l.initial.found k false;
}
