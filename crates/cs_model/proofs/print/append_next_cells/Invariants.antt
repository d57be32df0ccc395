use Rattle.std.proofs.Common.{◌≡◌, ◌++◌, take}
use Rattle.std.specs.List.{flat_map}
use Rattle.cs_model.specs.Text.{next_cell}
use Rattle.cs_model.proofs.print.append_next_cells.Given as goal

abbrev pub invariant-loop-cell : goal.invariant-loop-cell
invariant-loop-cell l = l.line ≡ l.fn.line ++ flat_map next_cell (take l.cell-index l.cells)
