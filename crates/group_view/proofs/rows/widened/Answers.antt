use Rattle.std.proofs.Common.{arith}
use Rattle.cs_types.proofs.PaddedLemmas.{padded_itself}
use Rattle.group_view.proofs.rows.widened.Goals as goal

pub returns-then-len-width : goal.returns-then-len-width
returns-then-len-width c = padded_itself c.args.width c.args.row (omega (arith, c.len.ensures, c.if-len-width.true))
