use Rattle.group_book.proofs.Closed.{close_is}
use Rattle.group_book.proofs.close_keeps_book.Goals as goal

pub returns : goal.returns
returns c = λ group_rows book changes floor j. close_is group_rows book changes floor j
