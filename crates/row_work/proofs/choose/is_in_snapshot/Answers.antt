use Rattle.row_work.proofs.Found.{shows_row}
use Rattle.row_work.proofs.choose.is_in_snapshot.Goals as goal

pub returns-in-Shown : goal.returns-in-Shown
returns-in-Shown c = λ width. shows_row width c.args.pinned.now c.args.chosen.key c.in-Shown.field-0 c.requires.snapshot (rw c.in-Shown.is at c.requires.shown)
