use Rattle.std.proofs.Common.{◌≡◌, ◌<◌, ◌≤◌, ℕ, false, length, slice_index_or}
use Rattle.batch_kernels.proofs.masks.drop_from.Given as goal

abbrev pub invariant-loop-i : goal.invariant-loop-i
invariant-loop-i l = record {
  len : length l.batch ≡ 1024;
  first : (k : ℕ) → k < l.count → slice_index_or l.batch k false ≡ slice_index_or l.initial.batch k false;
  done : (k : ℕ) → l.count ≤ k → k < l.i → slice_index_or l.batch k false ≡ false;
}
