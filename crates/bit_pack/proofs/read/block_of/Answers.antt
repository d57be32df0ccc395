use Rattle.bit_pack.proofs.Places.{eights}
use Rattle.bit_pack.proofs.read.block_of.Goals as goal

pub returns : goal.returns
returns g c = eights _ _ _ _ _ _ _ _ _ _ _ _ _ c.eight.ensures c.eight-2.ensures c.eight-3.ensures c.eight-4.ensures c.eight-5.ensures c.eight-6.ensures c.eight-7.ensures c.eight-8.ensures
