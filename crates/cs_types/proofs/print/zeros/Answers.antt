use Rattle.std.proofs.lemmas.List.{take-replicate}
use Rattle.cs_types.proofs.print.zeros.Goals as goal

pub returns : goal.returns
returns c = take-replicate c.args.count 255 48 c.requires
