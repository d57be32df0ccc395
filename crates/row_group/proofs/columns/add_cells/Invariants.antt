use Rattle.std.proofs.Common.{◌≡◌, ◌++◌, map, take}
use Rattle.column_segment.specs.Bodies.{cell_in}
use Rattle.row_group.proofs.columns.add_cells.Given as goal

abbrev pub invariant-loop-position : goal.invariant-loop-position
invariant-loop-position l = l.column ≡ l.initial.column ++ map (cell_in l.segment.body) (take l.position-index l.positions)
