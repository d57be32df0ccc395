use Rattle.std.proofs.Common.{arith}
use Rattle.segment_value.proofs.Powers.{ten_small, ten_positive}
use Rattle.segment_value.proofs.power_of_ten.Goals as goal

pub pow-requires : goal.pow-requires
pow-requires c = omega (arith, ten_small c.args.exponent c.requires)

pub returns-clause-bounds : goal.returns-clause-bounds
returns-clause-bounds c = (omega (arith, ten_positive c.args.exponent), omega (arith, ten_small c.args.exponent c.requires))
