use Rattle.std.proofs.Common.{take}
use Rattle.segment_value.specs.Scales.{numbers_in, IsCommonExponent}
use Rattle.segment_value.proofs.common_exponent.Given as goal

abbrev pub invariant-loop-cell : goal.invariant-loop-cell
invariant-loop-cell l = IsCommonExponent (numbers_in (take l.cell-index l.cells)) l.exponent
