use Rattle.group_directory.proofs.LoanLaws.{ends_lent, flush_agrees}
use Rattle.group_directory.proofs.laws.loans_end_alike.Goals as goal

pub returns-clause-lent : goal.returns-clause-lent
returns-clause-lent c = ends_lent

pub returns-clause-flush : goal.returns-clause-flush
returns-clause-flush c = flush_agrees
