use Rattle.group_book.proofs.Ledger.{adds_up}
use Rattle.group_book.proofs.counts_add_up.Goals as goal

pub returns : goal.returns
returns c = λ group_rows book changes clock floor a reach j. adds_up group_rows book changes clock floor a reach j
