use Rattle.std.proofs.Common.{◌∙◌, length}
use Rattle.bit_pack.proofs.Places.{lane_there, lane_is}
use Rattle.bit_pack.proofs.read.lane.Goals as goal

pub picked-requires-clause-there : goal.picked-requires-clause-there
picked-requires-clause-there g c = lane_there c.args.i g.row.W (length c.args.words.now) c.requires.there

pub returns : goal.returns
returns g c = c.picked.ensures ∙ lane_is c.args.words.now c.args.i g.row.W
