use Rattle.std.proofs.Common.{◌≡◌, ◌++◌}
use Rattle.std.specs.Vec.Iter.{into_iter_items}
use Rattle.write_set.specs.Writes.{staged}
use Rattle.write_set.proofs.list.laid.Given as goal

abbrev pub invariant-loop-write : goal.invariant-loop-write
invariant-loop-write l = record {
  staged : l.list ≡ staged l.fn.list l.yielded;
  rest : l.yielded ++ into_iter_items l.write-iterator ≡ l.fn.writes.items;
}
