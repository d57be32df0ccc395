use Rattle.std.proofs.Common.{◌≡◌, ◌<◌, ◌≤◌, ℕ, ◌&&◌, false, length, slice_index_or}
use Rattle.batch_kernels.specs.Masks.{same_as}
use Rattle.batch_kernels.proofs.masks.keep_where.Given as goal

abbrev pub invariant-loop-i : goal.invariant-loop-i
invariant-loop-i l = record {
  len : length l.mask ≡ length l.initial.mask;
  done : (k : ℕ) → k < l.i → slice_index_or l.mask k false ≡ (slice_index_or l.initial.mask k false && same_as l.wanted (slice_index_or l.other k false));
  rest : (k : ℕ) → l.i ≤ k → slice_index_or l.mask k false ≡ slice_index_or l.initial.mask k false;
}
