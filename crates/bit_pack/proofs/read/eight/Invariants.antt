use Rattle.std.proofs.Common.{◌+◌, ◌*◌}
use Rattle.bit_pack.specs.Codes.{HasCodes}
use Rattle.bit_pack.proofs.read.eight.Given as goal

abbrev pub invariant-loop-j : goal.invariant-loop-j
invariant-loop-j g l = HasCodes g.row.W l.words (64 * l.block + g.row.J) (l.at + g.row.J) l.j l.initial.out l.out
