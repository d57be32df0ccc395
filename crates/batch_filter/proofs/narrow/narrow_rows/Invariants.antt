use Rattle.std.proofs.Common.{◌≡◌, ◌<◌, ◌≤◌, ℕ, ◌&&◌, false, length, slice_index_or}
use Rattle.batch_filter.specs.Sieves.{asks}
use Rattle.batch_filter.proofs.narrow.narrow_rows.Given as goal

-- the places before are narrowed, and the others are as they were
abbrev pub invariant-loop-position : goal.invariant-loop-position
invariant-loop-position l = record {
  same : length l.mask ≡ length l.initial.mask;
  done : (i : ℕ) → i < l.position → slice_index_or l.mask i false ≡ (slice_index_or l.initial.mask i false && asks l.schema l.packed l.holds l.pred i);
  others : (i : ℕ) → l.position ≤ i → slice_index_or l.mask i false ≡ slice_index_or l.initial.mask i false;
}
