use Rattle.std.proofs.Common.{arith, length}
use Rattle.bit_pack.proofs.Places.{single_there, single_more}
use Rattle.bit_pack.proofs.read.singles.Goals as goal

pub picked-requires-clause-there : goal.picked-requires-clause-there
picked-requires-clause-there g c = single_there c.args.from c.loop-i.i c.args.end g.row.W (length c.args.words.now) (omega arith) c.requires.there

pub loop-i-preserved : goal.loop-i-preserved
loop-i-preserved g c = single_more g.row.W c.args.words.now c.args.from c.args.at c.loop-i.i _ _ _ (omega arith) (omega arith) c.picked.ensures c.loop-i.invariant
