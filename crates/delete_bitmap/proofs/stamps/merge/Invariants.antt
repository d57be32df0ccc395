use Rattle.std.proofs.Common.{◌+◌, ◌++◌, take}
use Rattle.delete_bitmap.proofs.StampMerges.{IsBefore}
use Rattle.merge_laws.proofs.Merging.{IsMerging}
use Rattle.delete_bitmap.proofs.stamps.merge.Given as goal

abbrev pub invariant-loop-new : goal.invariant-loop-new
invariant-loop-new l = IsMerging IsBefore (l.others ++ take l.count l.initial.stamps) (take l.count l.initial.stamps) l.others l.stamps l.old l.new

abbrev pub decreases-loop-new : goal.decreases-loop-new
decreases-loop-new l = l.new + l.old
