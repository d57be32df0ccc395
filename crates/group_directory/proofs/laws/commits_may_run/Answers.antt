use Rattle.group_directory.proofs.BookLaws.{listed_low, lent_low, buffer_low, live_row, live_replaced}
use Rattle.group_directory.proofs.laws.commits_may_run.Goals as goal

pub returns-clause-listed : goal.returns-clause-listed
returns-clause-listed c = listed_low

pub returns-clause-lent : goal.returns-clause-lent
returns-clause-lent c = lent_low

pub returns-clause-entries : goal.returns-clause-entries
returns-clause-entries c = buffer_low

pub returns-clause-live : goal.returns-clause-live
returns-clause-live c = λ directory changes key j. live_row directory changes j key

pub returns-clause-replaced : goal.returns-clause-replaced
returns-clause-replaced c = λ directory changes own j. live_replaced directory changes j own
