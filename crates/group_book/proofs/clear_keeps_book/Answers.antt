use Rattle.group_book.proofs.Sized.{clear_is}
use Rattle.group_book.proofs.clear_keeps_book.Goals as goal

pub returns : goal.returns
returns c = λ group_rows book changes floor j. clear_is group_rows book changes floor j
