use Rattle.std.proofs.Common.{◌/◌, arith}
use Rattle.delete_bitmap.proofs.BitLemmas.{bit_in-turned}
use Rattle.delete_bitmap.proofs.positions.invert_each.Goals as goal

pub returns-clause-bits : goal.returns-clause-bits
returns-clause-bits c = λ k there.
    bit_in-turned c.loop-i.words.items c.args.words.now.items k (c.loop-i.invariant.done (k / 64) (omega arith)) (c.loop-i.invariant.small (k / 64) (omega arith))
