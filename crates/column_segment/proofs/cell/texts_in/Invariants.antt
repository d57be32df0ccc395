use Rattle.std.proofs.Common.{◌≡◌, map, take}
use Rattle.std.specs.Option.{option_copied}
use Rattle.column_segment.specs.Cells.{text_of}
use Rattle.column_segment.proofs.cell.texts_in.Given as goal

abbrev pub invariant-loop-cell : goal.invariant-loop-cell
invariant-loop-cell l = map option_copied l.texts.items ≡ map text_of (take l.cell-index l.cells)
