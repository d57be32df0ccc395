use Rattle.std.proofs.Common.{◌∙◌, ap, arith, take, set, ◌+◌, ◌*◌, ◌/◌, ◌<◌, length}
use Rattle.bit_pack.proofs.Written.{low, stays_more, fills_more, rest_lt}
use Rattle.bit_pack.proofs.Numbers.{small}
use Rattle.bit_pack.proofs.write.put.Goals as goal

pub merged-full-requires-clause-low : goal.merged-full-requires-clause-low
merged-full-requires-clause-low g c = low g.row.W c.args.codes.now c.args.i _ c.args.last (small g.row.W c.args.codes.now c.requires.below) c.requires.before

pub returns-then-used-lt64 : goal.returns-then-used-lt64
returns-then-used-lt64 g c =
    let is = stays_more g.row.W c.args.codes.now c.args.i c.args.words.now c.args.last (small g.row.W c.args.codes.now c.requires.below) c.requires.before c.if-used-lt64.true in
    (is.0, c.merged-full.ensures ∙ is.1)

pub returns-else-used-lt64 : goal.returns-else-used-lt64
returns-else-used-lt64 g c =
    let w = g.row.W in
    let k = c.args.i * w / 64 in
    let place = rest_lt c.args.i w c.requires.place c.requires.width in
    let room : c.args.i * g.row.W / 64 < length c.args.words.now = omega (arith, place, c.told-words) in
    let is = fills_more w c.args.codes.now c.args.i c.args.words.now c.args.last c.requires.width (small g.row.W c.args.codes.now c.requires.below) c.requires.before c.if-used-lt64.false room in
    (ap (λ n. take ((c.args.i + 1) * w / 64) (set c.args.words.now k n)) c.merged-full.ensures ∙ is.0, c.carried.ensures ∙ is.1)
