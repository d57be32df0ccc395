use Rattle.group_book.proofs.Rise.{book_rise}
use Rattle.group_book.proofs.floor_may_rise.Goals as goal

pub returns : goal.returns
returns c = book_rise
