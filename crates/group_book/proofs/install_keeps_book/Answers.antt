use Rattle.group_book.proofs.Installed.{install_is}
use Rattle.group_book.proofs.install_keeps_book.Goals as goal

pub returns : goal.returns
returns c = λ group_rows book changes floor claim in_list makes j. install_is group_rows book changes floor claim j in_list makes
