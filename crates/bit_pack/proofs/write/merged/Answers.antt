use Rattle.bit_pack.proofs.Written.{merged_is}
use Rattle.bit_pack.proofs.write.merged.Goals as goal

pub returns : goal.returns
returns c = merged_is c.args.word c.args.used c.args.code c.requires.used c.requires.low
