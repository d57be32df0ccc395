use Rattle.std.proofs.Common.{◌∙◌}
use Rattle.row_work.proofs.Found.{own_has_row, shown_has_row}
use Rattle.row_work.proofs.reading.has_row_read.Goals as goal

pub returns-in-Some : goal.returns-in-Some
returns-in-Some c = λ width is. c.is_some.ensures ∙ own_has_row width c.args.pinned.now c.args.key c.in-Some.at c.get.result.now c.in-Some.ensures.order c.in-Some.ensures.place c.get.ensures

pub returns-in-None : goal.returns-in-None
returns-in-None c = λ width is. is ∙ shown_has_row width c.args.pinned.now c.args.key c.in-None.ensures.order c.in-None.ensures.place
