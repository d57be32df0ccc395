use Rattle.std.proofs.Common.{◌≡◌, ◌++◌, map, take}
use Rattle.column_segment.specs.Cells.{seen}
use Rattle.row_group.proofs.arrange.add_values.Given as goal

abbrev pub invariant-loop-value : goal.invariant-loop-value
invariant-loop-value l = map seen l.all.items ≡ map seen l.initial.all.items ++ take l.value-index l.values
