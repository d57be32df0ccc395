use Rattle.std.proofs.Common.{◌≡◌, ◌++◌, map, take}
use Rattle.column_segment.specs.Cells.{seen}
use Rattle.cs_types.specs.Rows.{number_cell}
use Rattle.row_group.proofs.arrange.add_numbers.Given as goal

abbrev pub invariant-loop-number : goal.invariant-loop-number
invariant-loop-number l = map seen l.all.items ≡ map seen l.initial.all.items ++ map number_cell (take l.number-index l.numbers)
