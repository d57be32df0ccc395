use Rattle.std.proofs.Common.{◌≡◌, ◌<◌, ℕ, false, length, slice_index_or}
use Rattle.batch_kernels.proofs.masks.put_batch.Given as goal

abbrev pub invariant-loop-i : goal.invariant-loop-i
invariant-loop-i l = record {
  len : length l.batch ≡ 1024;
  done : (k : ℕ) → k < l.i → slice_index_or l.batch k false ≡ slice_index_or l.there k false;
}
