use Rattle.std.proofs.Common.{◌≡◌, map, take}
use Rattle.column_segment.specs.Cells.{number_of, seen}
use Rattle.column_segment.proofs.cell.numbers_shown.Given as goal

abbrev pub invariant-loop-cell : goal.invariant-loop-cell
invariant-loop-cell l = l.numbers.items ≡ map number_of (map seen (take l.cell-index l.cells))
