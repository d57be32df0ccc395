use Rattle.std.proofs.Common.{◌≡◌, ◌<◌, ◌*◌, ◌/◌, ◌%◌, length, arith}
use Rattle.bit_pack.proofs.Written.{ends_open, rest_lt}
use Rattle.bit_pack.proofs.Numbers.{small}
use Rattle.bit_pack.proofs.write.rest_of.Goals as goal

pub returns-clause-words : goal.returns-clause-words
returns-clause-words g c =
    let end : c.loop-i.i ≡ length c.args.codes.now = omega arith in
    let some : 0 < length c.args.codes.now * g.row.W % 64 = omega (arith, c.if-bits-eq0.false) in
    let room : length c.args.codes.now * g.row.W / 64 < length c.loop-i.words = omega (arith, rest_lt (length c.args.codes.now) g.row.W c.requires.few c.requires.width) in
    ends_open g.row.W c.args.codes.now c.loop-i.words c.loop-i.last c.loop-i.i end (small g.row.W c.args.codes.now c.requires.below) c.loop-i.invariant some room
