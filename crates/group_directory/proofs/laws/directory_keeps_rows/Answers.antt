use Rattle.group_directory.proofs.GroupLaws.{committed_rows, committed_loans, made_rows}
use Rattle.group_directory.proofs.laws.directory_keeps_rows.Goals as goal

pub returns-clause-commit : goal.returns-clause-commit
returns-clause-commit c = λ directory changes txn own rows news j. committed_rows directory changes j txn own rows news

pub returns-clause-loans : goal.returns-clause-loans
returns-clause-loans c = λ directory changes txn own j. committed_loans directory changes j txn own

pub returns-clause-made : goal.returns-clause-made
returns-clause-made c = λ directory changes held group j. made_rows directory changes j held group
