use Rattle.group_directory.proofs.RowLaws.{rows_kept, rows_padded, rows_packed}
use Rattle.group_directory.proofs.laws.work_keeps_rows.Goals as goal

pub returns-clause-kept : goal.returns-clause-kept
returns-clause-kept c = rows_kept

pub returns-clause-padded : goal.returns-clause-padded
returns-clause-padded c = rows_padded

pub returns-clause-made : goal.returns-clause-made
returns-clause-made c = rows_packed
