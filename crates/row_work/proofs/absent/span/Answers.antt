use Rattle.row_work.proofs.Absence.{between_ends}
use Rattle.row_work.proofs.absent.span.Goals as goal

pub returns-clause-some : goal.returns-clause-some
returns-clause-some c = between_ends c.args.keys.now c.in_ok-least.field-0.now c.in_ok-greatest.field-0.now c.requires c.in_ok-least.ensures.item.3.1 c.in_ok-greatest.ensures.item.3.1
