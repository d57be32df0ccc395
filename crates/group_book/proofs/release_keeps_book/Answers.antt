use Rattle.group_book.proofs.Released.{release_is}
use Rattle.group_book.proofs.release_keeps_book.Goals as goal

pub returns : goal.returns
returns c = λ group_rows book changes floor claim in_list j. release_is group_rows book changes floor claim j in_list
