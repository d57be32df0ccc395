use Rattle.bit_pack.proofs.Numbers.{small, code_at-packed}
use Rattle.bit_pack.proofs.Blocks.{bits-packed}
use Rattle.bit_pack.proofs.write.pack.Goals as goal

pub returns-then-is_err-clause-codes : goal.returns-then-is_err-clause-codes
returns-then-is_err-clause-codes g c = code_at-packed g.row.W c.args.codes.now (small g.row.W c.args.codes.now c.requires.below)

pub returns-then-is_err-clause-bits : goal.returns-then-is_err-clause-bits
returns-then-is_err-clause-bits g c = bits-packed g.row.W c.args.codes.now (small g.row.W c.args.codes.now c.requires.below)

pub returns-else-is_err-clause-codes : goal.returns-else-is_err-clause-codes
returns-else-is_err-clause-codes g c = code_at-packed g.row.W c.args.codes.now (small g.row.W c.args.codes.now c.requires.below)

pub returns-else-is_err-clause-bits : goal.returns-else-is_err-clause-bits
returns-else-is_err-clause-bits g c = bits-packed g.row.W c.args.codes.now (small g.row.W c.args.codes.now c.requires.below)
