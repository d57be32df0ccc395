use Rattle.std.proofs.Common.{◌≡◌, ◌+◌, ◌++◌, vec_len, vec_capacity, All}
use Rattle.std.specs.VecDeque.{deque_len}
use Rattle.std.specs.declared.cmp.Ordering.TheVariants.{Less}
use Rattle.cs_types.specs.Keys.{key_cmp}
use Rattle.write_set.specs.declared.write.Write.{Write}
use Rattle.write_set.proofs.merge.pass_smaller.Given as goal

abbrev pub invariant-loop-key : goal.invariant-loop-key
invariant-loop-key l = record {
  below : All (λ (write : Write). key_cmp write.key l.key ≡ Less) l.done.items;
  items : l.done.items ++ l.rest.items ≡ l.initial.done.items ++ l.initial.rest.items;
  len : vec_len l.done + deque_len l.rest ≡ vec_len l.initial.done + deque_len l.initial.rest;
  capacity : vec_capacity l.done ≡ vec_capacity l.initial.done;
}

abbrev pub decreases-loop-key : goal.decreases-loop-key
decreases-loop-key l = deque_len l.rest
