use Rattle.std.proofs.Common.{◌≡◌, ◌++◌, take, vec_capacity}
use Rattle.delete_bitmap.proofs.stamps.append.Given as goal

abbrev pub invariant-loop-stamp : goal.invariant-loop-stamp
invariant-loop-stamp l = record {
  stamps : l.stamps.items ≡ l.initial.stamps.items ++ take l.stamp-index l.others;
  capacity : vec_capacity l.stamps ≡ vec_capacity l.initial.stamps;
}
