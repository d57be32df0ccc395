use Rattle.std.proofs.Common.{◌≡◌, ◌+◌, ◌++◌, length, vec_len}
use Rattle.std.specs.Vec.Iter.{into_iter_items}
use Rattle.group_directory.specs.Committing.{new_groups}
use Rattle.group_directory.proofs.commit_loads.load_groups.Given as goal

-- what is left goes after as all did
abbrev pub invariant-loop-packed : goal.invariant-loop-packed
invariant-loop-packed l = record {
  groups : l.list.groups.items ++ new_groups l.list.next (into_iter_items l.packed-iterator) ≡ l.fn.list.groups.items ++ new_groups l.fn.list.next l.fn.loads.items;
  len : length l.list.groups.items + length (into_iter_items l.packed-iterator) ≡ length l.fn.list.groups.items + vec_len l.fn.loads;
  capacity : l.list.groups.room ≡ l.fn.list.groups.room;
  next : l.list.next + length (into_iter_items l.packed-iterator) ≡ l.fn.list.next + vec_len l.fn.loads;
  opened : l.list.opened ≡ l.fn.list.opened;
  buffer : l.list.buffer ≡ l.fn.list.buffer;
  claims : l.list.claims ≡ l.fn.list.claims;
}
