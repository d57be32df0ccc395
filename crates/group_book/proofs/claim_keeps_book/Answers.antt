use Rattle.group_book.proofs.Claimed.{claim_is, flush_claimed}
use Rattle.group_book.proofs.Visible.{ascending_of}
use Rattle.group_book.proofs.claim_keeps_book.Goals as goal

pub returns-clause-makes : goal.returns-clause-makes
returns-clause-makes c = λ group_rows book changes clock floor actor choice sources a j may. claim_is group_rows book changes floor (ascending_of changes a.ascend) actor choice sources j may

pub returns-clause-flush : goal.returns-clause-flush
returns-clause-flush c = λ group_rows book changes clock floor actor sources a j takes. flush_claimed group_rows book changes floor (ascending_of changes a.ascend) actor sources j takes
