use Rattle.std.proofs.Common.{◌≡◌, map, take}
use Rattle.segment_value.specs.Scales.{code_of}
use Rattle.segment_value.proofs.shrink_all_at.Given as goal

abbrev pub invariant-loop-cell : goal.invariant-loop-cell
invariant-loop-cell g l = l.codes.items ≡ map (code_of l.scale) (take l.cell-index l.cells)
