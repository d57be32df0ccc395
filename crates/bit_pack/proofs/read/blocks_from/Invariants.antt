use Rattle.std.proofs.Common.{◌*◌}
use Rattle.bit_pack.specs.Codes.{HasCodes}
use Rattle.bit_pack.proofs.read.blocks_from.Given as goal

abbrev pub invariant-loop-block : goal.invariant-loop-block
invariant-loop-block g l = HasCodes g.row.W l.words (64 * l.first) l.at (64 * l.block) l.initial.out l.out
