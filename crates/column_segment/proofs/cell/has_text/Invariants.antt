use Rattle.std.proofs.Common.{take}
use Rattle.column_segment.specs.Cells.{HasNoText}
use Rattle.column_segment.proofs.cell.has_text.Given as goal

abbrev pub invariant-loop-cell : goal.invariant-loop-cell
invariant-loop-cell l = HasNoText (take l.cell-index l.cells)
