use Rattle.std.proofs.Common.{◌+◌}
use Rattle.bit_pack.specs.Codes.{IsWritten}
use Rattle.bit_pack.proofs.write.eight.Given as goal

abbrev pub invariant-loop-j : goal.invariant-loop-j
invariant-loop-j g l = IsWritten g.row.W l.codes (g.row.J + l.j) l.words l.word
