use Rattle.std.proofs.Common.{◌≡◌, ◌++◌, []}
use Rattle.std.specs.Map.{values_of}
use Rattle.std.specs.BTreeMap.{btree_map_len}
use Rattle.write_set.specs.Writes.{staged}
use Rattle.write_set.proofs.order.sorted.Given as goal

abbrev pub invariant-loop-write : goal.invariant-loop-write
invariant-loop-write l = l.ordered.items ++ values_of l.by_key.entries ≡ staged [] l.fn.writes.items

abbrev pub decreases-loop-write : goal.decreases-loop-write
decreases-loop-write l = btree_map_len l.by_key
