use Rattle.std.proofs.Common.{◌+◌, ◌++◌, take}
use Rattle.delete_buffer.specs.Added.{entries_of}
use Rattle.delete_buffer.proofs.TwoParts.{IsLess}
use Rattle.merge_laws.proofs.Merging.{IsMerging}
use Rattle.delete_buffer.proofs.batches.merge.Given as goal

abbrev pub invariant-loop-new : goal.invariant-loop-new
invariant-loop-new l =
    IsMerging IsLess (entries_of l.added ++ take l.count l.initial.entries) (take l.count l.initial.entries) (entries_of l.added) l.entries l.old l.new

abbrev pub decreases-loop-new : goal.decreases-loop-new
decreases-loop-new l = l.new + l.old
