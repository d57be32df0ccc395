use Rattle.std.proofs.Common.{◌≡◌, ◌+◌, ◌*◌, ◌/◌, ◌≤◌, ◌++◌, ◌∙◌, ap, take, length, arith}
use Rattle.bit_pack.specs.Codes.{packed}
use Rattle.bit_pack.proofs.Blocks.{block_next, blocks_end}
use Rattle.bit_pack.proofs.Numbers.{small}
use Rattle.bit_pack.proofs.write.put_blocks.Goals as goal

pub loop-block-preserved : goal.loop-block-preserved
loop-block-preserved g c =
    let there : 64 * (c.loop-block.block + 1) ≤ length c.args.codes.now = omega (arith, c.loop-block-test.true) in
    block_next g.row.W c.loop-block.block c.args.codes.now _ _ _ _ (small g.row.W c.args.codes.now c.requires.below) there c.in_ok-extend_from_slice.ensures.items c.loop-block.invariant c.block_of.ensures

pub returns-clause-ok : goal.returns-clause-ok
returns-clause-ok g c =
    let cs = c.args.codes.now in
    let all : c.loop-block.block ≡ length c.args.codes.now / 64 = omega (arith, c.loop-block-test.false, c.loop-block.auto.block-end) in
    let within : 64 * (length c.args.codes.now / 64) ≤ length c.args.codes.now = omega arith in
    let before =
    c.loop-block.invariant
    ∙ ap (λ l. l ++ packed g.row.W (take (64 * c.loop-block.block) cs)) c.in_ok-reserve.ensures.items
    ∙ ap (λ b. c.args.out.now.items ++ packed g.row.W (take (64 * b) cs)) all in
    blocks_end g.row.W (length cs / 64) cs c.args.out.now.items c.loop-block.out.items _ _ (small g.row.W c.args.codes.now c.requires.below) within c.in_ok-extend_from_slice-2.ensures.items before c.rest_of-length.ensures.words
