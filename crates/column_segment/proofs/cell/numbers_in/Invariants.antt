use Rattle.std.proofs.Common.{◌≡◌, map, take}
use Rattle.column_segment.specs.Cells.{number_of}
use Rattle.column_segment.proofs.cell.numbers_in.Given as goal

abbrev pub invariant-loop-cell : goal.invariant-loop-cell
invariant-loop-cell l = l.numbers.items ≡ map number_of (take l.cell-index l.cells)
