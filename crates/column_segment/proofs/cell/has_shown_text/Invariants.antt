use Rattle.std.proofs.Common.{map, take}
use Rattle.column_segment.specs.Cells.{HasNoText, seen}
use Rattle.column_segment.proofs.cell.has_shown_text.Given as goal

abbrev pub invariant-loop-cell : goal.invariant-loop-cell
invariant-loop-cell l = HasNoText (take l.cell-index (map seen l.cells))
