use Rattle.std.proofs.Common.{arith, ◌∙◌, ◌+◌, ◌*◌, length, ap, add_assoc, sym}
use Rattle.bit_pack.specs.Codes.{code_at}
use Rattle.bit_pack.proofs.Places.{none, append, one, block_there, block_lane}
use Rattle.bit_pack.proofs.read.eight.Goals as goal

pub picked-requires-clause-there : goal.picked-requires-clause-there
picked-requires-clause-there g c = block_there c.args.block (g.row.J + c.loop-j.j) g.row.W (length c.args.words.now) (omega (arith, c.requires.place, c.loop-j-test.true)) c.requires.there

pub loop-j-init : goal.loop-j-init
loop-j-init g c = none _ _ _ _ _

pub loop-j-preserved : goal.loop-j-preserved
loop-j-preserved g c =
    append _ _ _ _ c.loop-j.j 1 _ c.loop-j.out _ c.loop-j.invariant
    (one _ _ _ _ c.loop-j.out c.picked.result (omega arith)
    (c.picked.ensures ∙ block_lane c.args.words.now c.args.block (g.row.J + c.loop-j.j) g.row.W ∙ ap (λ n. code_at g.row.W c.args.words.now n) (sym (add_assoc (64 * c.args.block) g.row.J c.loop-j.j))))
