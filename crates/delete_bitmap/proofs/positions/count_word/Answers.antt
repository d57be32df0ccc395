use Rattle.std.proofs.Common.{arith}
use Rattle.delete_bitmap.proofs.BitCounts.{ones-in}
use Rattle.delete_bitmap.proofs.positions.count_word.Goals as goal

pub returns : goal.returns
returns c = ones-in c.args.word c.args.bit c.args.count (omega (arith, c.requires.bits))
