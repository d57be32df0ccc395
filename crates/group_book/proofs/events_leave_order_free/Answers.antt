use Rattle.group_book.proofs.Reordered.{install_reordered, loads_reordered}
use Rattle.group_book.proofs.events_leave_order_free.Goals as goal

pub returns-clause-install : goal.returns-clause-install
returns-clause-install c = λ group_rows book changes floor claim versions in_list j moved. install_reordered group_rows book changes floor claim versions j in_list moved

pub returns-clause-commit : goal.returns-clause-commit
returns-clause-commit c = loads_reordered
