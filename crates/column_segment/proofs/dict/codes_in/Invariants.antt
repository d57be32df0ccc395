use Rattle.std.proofs.Common.{take}
use Rattle.column_segment.specs.Dicts.{AreDictCodes}
use Rattle.column_segment.proofs.dict.codes_in.Given as goal

abbrev pub invariant-loop-cell : goal.invariant-loop-cell
invariant-loop-cell l = AreDictCodes l.dict (take l.cell-index l.cells) l.codes.items
