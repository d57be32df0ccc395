use Rattle.group_book.proofs.Lent.{lent_is}
use Rattle.group_book.proofs.Visible.{ascending_of}
use Rattle.group_book.proofs.claim_lends_what_stands.Goals as goal

pub returns : goal.returns
returns c = λ group_rows book changes clock floor actor choice sources fresh a j. lent_is book changes floor (ascending_of changes a.ascend) j.stock sources actor choice fresh
