use Rattle.group_book.proofs.Flushed.{flush_is}
use Rattle.group_book.proofs.flush_keeps_book.Goals as goal

pub returns : goal.returns
returns c = λ group_rows book changes floor claim in_list flush j. flush_is group_rows book changes floor claim j in_list flush
