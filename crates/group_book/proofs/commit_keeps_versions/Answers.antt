use Rattle.group_book.proofs.Inserts.{commit_stock}
use Rattle.group_book.proofs.Visible.{ascending_of, below_of}
use Rattle.group_book.proofs.Made.{once_sorted}
use Rattle.group_book.proofs.commit_keeps_versions.Goals as goal

pub returns : goal.returns
returns c = λ sizes book changes clock floor txn own a reach sorted j. commit_stock sizes book changes clock floor txn own (below_of changes clock a) (ascending_of changes a.ascend) reach (once_sorted own sorted) j.groups.one j.stock
