use Rattle.std.proofs.Common.{◌≡◌, ◌+◌, ◌-◌, ◌<◌, ◌≤◌, ℕ, false}
use Rattle.std.specs.Prelude.{slice_index_or}
use Rattle.delete_bitmap.specs.Bits.{bit_in}
use Rattle.delete_bitmap.proofs.positions.put_bits.Given as goal

abbrev pub invariant-loop-done : goal.invariant-loop-done
invariant-loop-done l = record {
  within : l.done ≤ l.count;
  bits : (k : ℕ) → k < l.done → slice_index_or l.out k false ≡ bit_in l.words (l.from + k);
  others : (k : ℕ) → l.count ≤ k → slice_index_or l.out k false ≡ slice_index_or l.initial.out k false;
}

abbrev pub decreases-loop-done : goal.decreases-loop-done
decreases-loop-done l = l.count - l.done
