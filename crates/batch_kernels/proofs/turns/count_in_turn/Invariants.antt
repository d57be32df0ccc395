use Rattle.std.proofs.Common.{◌≡◌, ◌+◌, ◌<◌, ℕ, length, slice_index, fold}
use Rattle.batch_kernels.specs.Places.{places_with}
use Rattle.batch_kernels.proofs.turns.count_in_turn.Given as goal

abbrev pub invariant-loop-i : goal.invariant-loop-i
invariant-loop-i l = (k : ℕ) → k < length l.initial.counts → slice_index l.counts k ≡ fold (λ n _. n + 1) (slice_index l.initial.counts k) (places_with l.mask (slice_index l.keys) k l.i)
