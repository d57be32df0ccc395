use Rattle.bit_pack.proofs.Written.{block_ends}
use Rattle.bit_pack.proofs.write.block_of.Goals as goal

pub returns : goal.returns
returns g c = block_ends g.row.W c.args.codes.now _ _ c.requires.whole c.eight-none.ensures
