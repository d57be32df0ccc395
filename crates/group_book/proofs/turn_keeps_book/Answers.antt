use Rattle.group_book.specs.Choices.{choice}
use Rattle.group_book.proofs.Visible.{ascending_of}
use Rattle.group_book.proofs.Chosen.{choice_apt}
use Rattle.group_book.proofs.Turned.{turn_is}
use Rattle.group_book.proofs.turn_keeps_book.Goals as goal

pub returns : goal.returns
returns c = λ group_rows book changes clock floor actor a j none. turn_is group_rows book changes floor (ascending_of changes a.ascend) actor j (choice floor group_rows actor book) (choice_apt group_rows floor book actor j.groups none)
