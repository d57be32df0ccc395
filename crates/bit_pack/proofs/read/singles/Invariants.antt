use Rattle.std.proofs.Common.{◌+◌, ◌-◌}
use Rattle.bit_pack.specs.Codes.{HasCodes}
use Rattle.bit_pack.proofs.read.singles.Given as goal

abbrev pub invariant-loop-i : goal.invariant-loop-i
invariant-loop-i g l = HasCodes g.row.W l.words (l.from + l.at) l.at (l.i - l.at) l.initial.out l.out
