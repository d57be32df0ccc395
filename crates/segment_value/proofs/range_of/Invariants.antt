use Rattle.std.proofs.Common.{take}
use Rattle.segment_value.specs.Scales.{numbers_in, IsRange}
use Rattle.segment_value.proofs.range_of.Given as goal

abbrev pub invariant-loop-cell : goal.invariant-loop-cell
invariant-loop-cell l = IsRange (numbers_in (take l.cell-index l.cells)) l.range
