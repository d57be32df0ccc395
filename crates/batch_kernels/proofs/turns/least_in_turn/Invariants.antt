use Rattle.std.proofs.Common.{◌≡◌, ◌<◌, ℕ, length, slice_index}
use Rattle.batch_kernels.specs.Places.{places_with, least_with}
use Rattle.batch_kernels.proofs.turns.least_in_turn.Given as goal

abbrev pub invariant-loop-i : goal.invariant-loop-i
invariant-loop-i l = (k : ℕ) → k < length l.initial.least → slice_index l.least k ≡ least_with (slice_index l.initial.least k) l.codes (places_with l.mask (slice_index l.keys) k l.i)
