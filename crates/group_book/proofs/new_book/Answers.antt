use Rattle.group_book.proofs.Rise.{empty_is}
use Rattle.group_book.proofs.new_book.Goals as goal

pub returns : goal.returns
returns c = empty_is
