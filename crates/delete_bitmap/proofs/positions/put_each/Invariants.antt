use Rattle.std.proofs.Common.{◌≡◌, ◌+◌, ◌-◌, ◌<◌, ◌≤◌, ◌⊎◌, ℕ, false, length}
use Rattle.std.specs.Prelude.{◌==◌, slice_index_or}
use Rattle.std.specs.Int.{bit_at}
use Rattle.delete_bitmap.proofs.positions.put_each.Given as goal

abbrev pub invariant-loop-i : goal.invariant-loop-i
invariant-loop-i l = record {
  len : length l.out ≡ 1024;
  put : (k : ℕ) → l.from ≤ k → k < l.i → slice_index_or l.out k false ≡ (bit_at l.word (l.bit + (k - l.from)) == 1);
  others : (k : ℕ) → (k < l.from) ⊎ (l.i ≤ k) → slice_index_or l.out k false ≡ slice_index_or l.initial.out k false;
}
