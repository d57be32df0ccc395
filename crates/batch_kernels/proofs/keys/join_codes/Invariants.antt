use Rattle.std.proofs.Common.{◌≡◌, ◌<◌, ◌≤◌, ℕ, ◌+◌, ◌*◌, length, slice_index}
use Rattle.batch_kernels.proofs.keys.join_codes.Given as goal

abbrev pub invariant-loop-i : goal.invariant-loop-i
invariant-loop-i l = record {
  len : length l.keys ≡ 1024;
  done : (k : ℕ) → k < l.i → slice_index l.keys k ≡ slice_index l.initial.keys k * l.radix + slice_index l.codes k;
  rest : (k : ℕ) → l.i ≤ k → slice_index l.keys k ≡ slice_index l.initial.keys k;
}
