use Rattle.group_book.proofs.Steady.{settle_is}
use Rattle.group_book.proofs.settle_keeps_book.Goals as goal

pub returns : goal.returns
returns c = λ group_rows book changes floor at low j. settle_is group_rows book changes floor at low j
