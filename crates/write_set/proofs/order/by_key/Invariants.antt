use Rattle.std.proofs.Common.{◌≡◌, ◌++◌, []}
use Rattle.std.specs.Vec.Iter.{into_iter_items}
use Rattle.write_set.specs.Writes.{keyed, staged}
use Rattle.write_set.proofs.order.by_key.Given as goal

abbrev pub invariant-loop-write : goal.invariant-loop-write
invariant-loop-write l = record {
  entries : l.by_key.entries ≡ keyed (staged [] l.yielded);
  rest : l.yielded ++ into_iter_items l.write-iterator ≡ l.fn.writes.items;
}
