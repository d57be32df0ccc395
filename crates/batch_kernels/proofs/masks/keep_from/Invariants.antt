use Rattle.std.proofs.Common.{◌≡◌, ◌<◌, ◌≤◌, ℕ, ◌&&◌, false, nat_le, length, slice_index}
use Rattle.std.specs.Prelude.{slice_index_or}
use Rattle.batch_kernels.proofs.masks.keep_from.Given as goal

abbrev pub invariant-loop-i : goal.invariant-loop-i
invariant-loop-i l = record {
  len : length l.mask ≡ 1024;
  done : (k : ℕ) → k < l.i → slice_index_or l.mask k false ≡ (slice_index_or l.initial.mask k false && nat_le l.least (slice_index l.codes k));
  rest : (k : ℕ) → l.i ≤ k → slice_index_or l.mask k false ≡ slice_index_or l.initial.mask k false;
}
