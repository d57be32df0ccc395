use Rattle.std.proofs.Common.{◌≡◌, ◌+◌, ◌<◌, ◌≤◌, ◌⊎◌, ℕ, false, length, slice_index_or}
use Rattle.batch_kernels.proofs.masks.keep_none.Given as goal

-- the first places are not chosen, and the others are as they were
abbrev pub invariant-loop-i : goal.invariant-loop-i
invariant-loop-i l = record {
  same : length l.mask ≡ length l.initial.mask;
  done : (k : ℕ) → k < l.i → slice_index_or l.mask (l.from + k) false ≡ false;
  others : (k : ℕ) → (k < l.from) ⊎ (l.from + l.i ≤ k) → slice_index_or l.mask k false ≡ slice_index_or l.initial.mask k false;
}
