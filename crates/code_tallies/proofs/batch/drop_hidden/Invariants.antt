use Rattle.std.proofs.Common.{◌≡◌, ◌-◌, ◌<◌, ◌≤◌, ℕ, ◌&&◌, false, length, slice_index_or}
use Rattle.code_tallies.proofs.batch.drop_hidden.Given as goal

-- the rows before are narrowed, and the others are as they were
abbrev pub invariant-loop-from : goal.invariant-loop-from
invariant-loop-from l = record {
  same : length l.rows ≡ length l.initial.rows;
  within : l.from ≤ length l.rows;
  done : (i : ℕ) → i < l.from → slice_index_or l.rows i false ≡ (slice_index_or l.initial.rows i false && slice_index_or l.set i false);
  others : (i : ℕ) → l.from ≤ i → slice_index_or l.rows i false ≡ slice_index_or l.initial.rows i false;
}

abbrev pub decreases-loop-from : goal.decreases-loop-from
decreases-loop-from l = length l.rows - l.from
