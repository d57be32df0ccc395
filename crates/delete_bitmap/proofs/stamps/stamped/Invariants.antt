use Rattle.std.proofs.Common.{◌≡◌, take}
use Rattle.delete_bitmap.specs.Kept.{stamped}
use Rattle.delete_bitmap.proofs.stamps.stamped.Given as goal

abbrev pub invariant-loop-position : goal.invariant-loop-position
invariant-loop-position l = l.stamps.items ≡ stamped (take l.position-index l.positions) l.commit
