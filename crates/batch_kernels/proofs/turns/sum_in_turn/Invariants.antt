use Rattle.std.proofs.Common.{◌≡◌, ◌+◌, ◌<◌, ℕ, pos, length, slice_index}
use Rattle.std.specs.Prelude.{slice_index_or}
use Rattle.batch_kernels.specs.Places.{places_with, sum_with, IsSumOf}
use Rattle.batch_kernels.proofs.turns.sum_in_turn.Given as goal

abbrev pub invariant-loop-i : goal.invariant-loop-i
invariant-loop-i l = record {
  sums : (k : ℕ) → k < length l.initial.sums → slice_index_or l.sums k (pos 0) ≡ sum_with (slice_index_or l.initial.sums k (pos 0)) l.numbers (places_with l.mask (slice_index l.keys) k l.i);
  bound : (k n : ℕ) → k < length l.initial.sums → IsSumOf n (slice_index_or l.initial.sums k (pos 0)) → IsSumOf (n + length (places_with l.mask (slice_index l.keys) k l.i)) (slice_index_or l.sums k (pos 0));
}
