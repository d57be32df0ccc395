use Rattle.group_book.proofs.Chosen.{choice_apt}
use Rattle.group_book.proofs.choice_may_be_claimed.Goals as goal

pub returns : goal.returns
returns c = λ group_rows book changes floor actor j none. choice_apt group_rows floor book actor j.groups none
