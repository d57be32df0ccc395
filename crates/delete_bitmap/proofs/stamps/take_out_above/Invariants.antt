use Rattle.std.proofs.Common.{◌≡◌, length, take}
use Rattle.delete_bitmap.specs.Kept.{without_above}
use Rattle.delete_bitmap.proofs.stamps.take_out_above.Given as goal

abbrev pub invariant-loop-stamp : goal.invariant-loop-stamp
invariant-loop-stamp l = record {
  set : l.positions ≡ without_above l.floor (take l.stamp-index l.stamps) l.initial.positions;
  length : length l.positions ≡ length l.initial.positions;
}
