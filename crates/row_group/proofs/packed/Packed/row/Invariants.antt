use Rattle.std.proofs.Common.{◌≡◌, map, take}
use Rattle.column_segment.specs.Bodies.{cell_in}
use Rattle.row_group.proofs.packed.Packed.row.Given as goal

abbrev pub invariant-loop-segment : goal.invariant-loop-segment
invariant-loop-segment l = l.row ≡ map (λ segment. cell_in segment.body l.position) (take l.segment-index l.segment-items)
