use Rattle.std.proofs.Common.{◌≡◌, ◌<◌, ℕ, ◌+◌, ◌*◌, length, slice_index}
use Rattle.batch_kernels.proofs.keys.put_joined.Given as goal

abbrev pub invariant-loop-i : goal.invariant-loop-i
invariant-loop-i l = record {
  len : length l.keys ≡ 1024;
  done : (k : ℕ) → k < l.i → slice_index l.keys k ≡ l.key * l.radix + slice_index l.codes k;
}
