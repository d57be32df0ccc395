use Rattle.edit_laws.proofs.Rows.{each_of_changes, each_of_either}
use Rattle.edit_laws.proofs.laws.rows_by_edits.Goals as goal

pub returns-clause-table : goal.returns-clause-table
returns-clause-table c = λ changes s. each_of_changes changes s

pub returns-clause-laid : goal.returns-clause-laid
returns-clause-laid c = λ t edits. each_of_either t edits
