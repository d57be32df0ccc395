use Rattle.std.proofs.Common.{◌≡◌, ◌++◌, take, vec_capacity}
use Rattle.delete_buffer.specs.Added.{entries_of}
use Rattle.delete_buffer.proofs.batches.append.Given as goal

abbrev pub invariant-loop-place : goal.invariant-loop-place
invariant-loop-place l = record {
  items : l.entries.items ≡ l.initial.entries.items ++ take l.place (entries_of l.added);
  capacity : vec_capacity l.entries ≡ vec_capacity l.initial.entries;
}
