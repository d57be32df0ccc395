use Rattle.std.proofs.Common.{◌≡◌, ◌-◌, ◌<◌, ◌≤◌, ℕ, ◌&&◌, false, length, slice_index_or}
use Rattle.column_segment.specs.Bodies.{code_in}
use Rattle.batch_filter.specs.Codes.{takes}
use Rattle.batch_filter.proofs.choice.Choice.narrow.Given as goal

-- the places before are narrowed, and the others are as they were
abbrev pub invariant-loop-from : goal.invariant-loop-from
invariant-loop-from l = record {
  same : length l.mask ≡ length l.initial.mask;
  within : l.from ≤ length l.mask;
  done : (i : ℕ) → i < l.from → slice_index_or l.mask i false ≡ (slice_index_or l.initial.mask i false && takes l.self (code_in l.segment.body i));
  others : (i : ℕ) → l.from ≤ i → slice_index_or l.mask i false ≡ slice_index_or l.initial.mask i false;
}

abbrev pub decreases-loop-from : goal.decreases-loop-from
decreases-loop-from l = length l.mask - l.from
