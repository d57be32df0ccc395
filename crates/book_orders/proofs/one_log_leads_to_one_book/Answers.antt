use Rattle.book_orders.proofs.Shuffled.{shuffled_back, shuffled_itself, shuffled_reordered, shuffled_through}
use Rattle.book_orders.proofs.Steps.{one_log_shuffled}
use Rattle.book_orders.proofs.one_log_leads_to_one_book.Goals as goal

pub returns-clause-log : goal.returns-clause-log
returns-clause-log c = one_log_shuffled

pub returns-clause-itself : goal.returns-clause-itself
returns-clause-itself c = shuffled_itself

pub returns-clause-reordered : goal.returns-clause-reordered
returns-clause-reordered c = shuffled_reordered

pub returns-clause-back : goal.returns-clause-back
returns-clause-back c = shuffled_back

pub returns-clause-through : goal.returns-clause-through
returns-clause-through c = shuffled_through
