use Rattle.group_book.proofs.Kept.{commit_is}
use Rattle.group_book.proofs.Visible.{ascending_of, below_of}
use Rattle.group_book.proofs.Made.{once_sorted}
use Rattle.group_book.proofs.commit_keeps_book.Goals as goal

pub returns : goal.returns
returns c = λ sizes book changes clock floor txn own room some a reach sorted j. commit_is sizes book changes clock floor txn own (below_of changes clock a) (ascending_of changes a.ascend) reach (once_sorted own sorted) room some j
