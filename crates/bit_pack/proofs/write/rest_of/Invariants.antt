use Rattle.bit_pack.specs.Codes.{IsWritten}
use Rattle.bit_pack.proofs.write.rest_of.Given as goal

abbrev pub invariant-loop-i : goal.invariant-loop-i
invariant-loop-i g l = IsWritten g.row.W l.codes l.i l.words l.last
