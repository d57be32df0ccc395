use Rattle.group_directory.proofs.TxnLaws.{txns_none, txns_opened, txns_deepened, txns_fixed, txns_removed, txns_staged, txns_committed}
use Rattle.group_directory.proofs.laws.transactions_agree.Goals as goal

pub returns-clause-none : goal.returns-clause-none
returns-clause-none c = txns_none

pub returns-clause-opened : goal.returns-clause-opened
returns-clause-opened c = λ txns changes clock session number depth j. txns_opened txns changes clock session j number depth

pub returns-clause-deepened : goal.returns-clause-deepened
returns-clause-deepened c = λ txns changes clock session depth j. txns_deepened txns changes clock session j depth

pub returns-clause-fixed : goal.returns-clause-fixed
returns-clause-fixed c = txns_fixed

pub returns-clause-removed : goal.returns-clause-removed
returns-clause-removed c = txns_removed

pub returns-clause-staged : goal.returns-clause-staged
returns-clause-staged c = txns_staged

pub returns-clause-committed : goal.returns-clause-committed
returns-clause-committed c = txns_committed
