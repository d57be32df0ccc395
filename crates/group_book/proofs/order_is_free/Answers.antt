use Rattle.group_book.proofs.Orders.{order_free, same_choice, same_work, same_sources, same_lines, same_states, reordered_itself, reordered_through, reordered_apart}
use Rattle.group_book.proofs.order_is_free.Goals as goal

pub returns-clause-book : goal.returns-clause-book
returns-clause-book c = order_free

pub returns-clause-choice : goal.returns-clause-choice
returns-clause-choice c = λ group_rows floor actor book other r. same_choice floor group_rows actor book other r

pub returns-clause-work : goal.returns-clause-work
returns-clause-work c = same_work

pub returns-clause-sources : goal.returns-clause-sources
returns-clause-sources c = same_sources

pub returns-clause-lines : goal.returns-clause-lines
returns-clause-lines c = same_lines

pub returns-clause-states : goal.returns-clause-states
returns-clause-states c = same_states

pub returns-clause-itself : goal.returns-clause-itself
returns-clause-itself c = reordered_itself

pub returns-clause-through : goal.returns-clause-through
returns-clause-through c = reordered_through

pub returns-clause-apart : goal.returns-clause-apart
returns-clause-apart c = reordered_apart
