use Rattle.std.proofs.Common.{arith}
use Rattle.row_work.proofs.Narrow.{same_named}
use Rattle.row_work.proofs.listed.cells_of_item.Goals as goal

pub returns-then-column-width-clause-enough : goal.returns-then-column-width-clause-enough
returns-then-column-width-clause-enough c = λ n rows least most.
    same_named n c.args.width c.in-Count.column rows c.args.item (omega (arith, least)) c.if-column-width.true c.in-Count.is
