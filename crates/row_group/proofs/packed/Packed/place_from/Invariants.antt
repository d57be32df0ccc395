use Rattle.std.proofs.Common.{◌≡◌, ◌+◌, ◌-◌, ◌<◌, ◌≤◌, ℕ, true, length}
use Rattle.cs_types.specs.Keys.{key_cmp}
use Rattle.row_group.specs.Groups.{precedes, key_at_place}
use Rattle.row_group.proofs.packed.Packed.place_from.Given as goal

abbrev pub invariant-loop-low : goal.invariant-loop-low
invariant-loop-low l = record {
  begun : l.from ≤ l.low;
  within : l.low ≤ length l.self.places;
  ahead : l.low ≤ l.probe;
  near : l.probe ≤ l.low + (l.low - l.from);
  before : (i : ℕ) → i < l.low → precedes l.tied (key_cmp (key_at_place l.self i) l.key) ≡ true;
}

abbrev pub decreases-loop-low : goal.decreases-loop-low
decreases-loop-low l = length l.self.places - l.low
