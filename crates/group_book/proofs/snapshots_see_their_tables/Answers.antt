use Rattle.group_book.proofs.Visible.{each_shown, frozen_seen, opened_seen}
use Rattle.group_book.proofs.snapshots_see_their_tables.Goals as goal

pub returns-clause-count : goal.returns-clause-count
returns-clause-count c = λ group_rows book changes clock floor s key a j reach. each_shown group_rows book changes clock floor a j s reach key

pub returns-clause-frozen : goal.returns-clause-frozen
returns-clause-frozen c = λ group_rows book changes clock floor s a j reach. frozen_seen group_rows book changes clock floor a j s reach

pub returns-clause-opened : goal.returns-clause-opened
returns-clause-opened c = λ group_rows book changes clock floor s a j reach. opened_seen group_rows book changes clock floor a j s reach
