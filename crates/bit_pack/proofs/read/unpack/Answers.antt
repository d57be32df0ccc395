use Rattle.std.proofs.Common.{◌+◌, ◌-◌, ◌*◌, ◌/◌, ◌≤◌, length, arith}
use Rattle.bit_pack.proofs.Places.{three, whole_there, aligned, joined}
use Rattle.bit_pack.proofs.read.unpack.Goals as goal

pub blocks_from-requires-clause-there : goal.blocks_from-requires-clause-there
blocks_from-requires-clause-there g c = λ b low.
    let within : c.min-head.result + 64 * (b + 1) ≤ c.args.count = omega (arith, low) in
    whole_there c.args.from c.min-head.result c.div_ceil.result b c.args.count g.row.W (length c.args.words.now) (aligned c.args.from c.args.count _ _ b c.min-head.ensures c.div_ceil.ensures low) within (c.requires.there (omega arith))

pub returns : goal.returns
returns g c =
    let within : c.min-head.result + 64 * ((c.args.count - c.min-head.result) / 64) ≤ c.args.count = omega (arith, c.min-head.ensures) in
    three g.row.W c.args.words.now c.args.from c.div_ceil.result c.min-head.result _ c.args.count _ _ _ _ (joined c.args.from c.args.count _ _ c.min-head.ensures c.div_ceil.ensures) within c.singles.ensures c.blocks_from.ensures c.singles-2.ensures
