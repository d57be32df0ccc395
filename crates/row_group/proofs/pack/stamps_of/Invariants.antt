use Rattle.std.proofs.Common.{map, take, slice_index}
use Rattle.row_group.specs.Fields.{AreStamps}
use Rattle.row_group.proofs.pack.stamps_of.Given as goal

abbrev pub invariant-loop-position : goal.invariant-loop-position
invariant-loop-position l = AreStamps (map (slice_index l.begins) (take l.position l.order)) l.floor l.late
