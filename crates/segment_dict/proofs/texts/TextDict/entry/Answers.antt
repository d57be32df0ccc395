use Rattle.std.proofs.Common.{arith}
use Rattle.segment_dict.proofs.TextLemmas.{length-texts_from}
use Rattle.segment_dict.proofs.texts.TextDict.entry.Goals as goal

pub text-requires : goal.text-requires
text-requires c = omega (arith, c.requires, length-texts_from 0 c.args.self.now.ends c.args.self.now.bytes)
