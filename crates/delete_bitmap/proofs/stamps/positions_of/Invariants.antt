use Rattle.std.proofs.Common.{◌≡◌, take}
use Rattle.delete_bitmap.specs.Kept.{positions_of}
use Rattle.delete_bitmap.proofs.stamps.positions_of.Given as goal

abbrev pub invariant-loop-stamp : goal.invariant-loop-stamp
invariant-loop-stamp l = l.positions.items ≡ positions_of (take l.stamp-index l.stamps)
