use Rattle.std.proofs.Common.{◌≡◌, ◌++◌, length, reverse}
use Rattle.shared_list.specs.Chunks.{joined, StandFrom}
use Rattle.shared_list.proofs.chunks.chunks_of.Given as goal

abbrev pub invariant-loop-alloc : goal.invariant-loop-alloc
invariant-loop-alloc g l = record {
  stand : StandFrom (length l.left.items) (reverse l.chunks.items);
  items : l.left.items ++ joined (reverse l.chunks.items) ≡ l.fn.items.items;
}

abbrev pub decreases-loop-alloc : goal.decreases-loop-alloc
decreases-loop-alloc g l = length l.left.items
