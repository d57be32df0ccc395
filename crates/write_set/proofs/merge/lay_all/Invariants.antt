use Rattle.std.proofs.Common.{◌≡◌, ◌+◌, ◌≤◌, ◌++◌, vec_len, vec_capacity, length, All}
use Rattle.std.specs.Vec.Iter.{into_iter_items}
use Rattle.std.specs.VecDeque.{deque_len}
use Rattle.std.specs.declared.cmp.Ordering.TheVariants.{Less}
use Rattle.cs_types.specs.Keys.{key_cmp}
use Rattle.write_set.specs.declared.write.Write.{Write}
use Rattle.write_set.specs.Writes.{Ascend, staged}
use Rattle.write_set.proofs.merge.lay_all.Given as goal

abbrev pub invariant-loop-write : goal.invariant-loop-write
invariant-loop-write l = record {
  staged : l.done.items ++ l.rest.items ≡ staged l.fn.own.items l.yielded;
  order : Ascend (l.done.items ++ l.rest.items);
  below : All (λ (write : Write). All (λ (other : Write). key_cmp other.key write.key ≡ Less) l.done.items) (into_iter_items l.write-iterator);
  rising : Ascend (into_iter_items l.write-iterator);
  yielded : l.yielded ++ into_iter_items l.write-iterator ≡ l.fn.writes.items;
  room : vec_len l.done + (deque_len l.rest + length (into_iter_items l.write-iterator)) ≤ vec_capacity l.done;
}
