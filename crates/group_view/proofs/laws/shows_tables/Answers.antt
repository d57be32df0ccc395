use Rattle.group_view.proofs.Tables.{is_view, tables_shown}
use Rattle.group_view.proofs.laws.shows_tables.Goals as goal

pub returns-clause-view : goal.returns-clause-view
returns-clause-view c = λ group_rows width view book changes a j v. is_view group_rows width view book changes a j v

pub returns-clause-tables : goal.returns-clause-tables
returns-clause-tables c = λ group_rows width view book changes a j v. tables_shown group_rows width view book changes a j v
