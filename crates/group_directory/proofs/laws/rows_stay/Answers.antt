use Rattle.group_directory.proofs.RowLaws.{rows_among, rows_moved, rows_later, rows_committed}
use Rattle.group_directory.proofs.laws.rows_stay.Goals as goal

pub returns-clause-among : goal.returns-clause-among
returns-clause-among c = rows_among

pub returns-clause-moved : goal.returns-clause-moved
returns-clause-moved c = rows_moved

pub returns-clause-later : goal.returns-clause-later
returns-clause-later c = rows_later

pub returns-clause-commit : goal.returns-clause-commit
returns-clause-commit c = λ width clock txn changes own old rows news sorted. rows_committed width clock txn changes own sorted old rows news
