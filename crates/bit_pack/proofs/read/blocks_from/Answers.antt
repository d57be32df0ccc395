use Rattle.std.proofs.Common.{arith}
use Rattle.bit_pack.proofs.Places.{block_more}
use Rattle.bit_pack.proofs.read.blocks_from.Goals as goal

pub block_of-requires-clause-there : goal.block_of-requires-clause-there
block_of-requires-clause-there g c = c.requires.there c.loop-block.block (omega arith)

pub loop-block-preserved : goal.loop-block-preserved
loop-block-preserved g c = block_more _ _ _ _ c.loop-block.block _ _ _ c.loop-block.invariant c.block_of.ensures
