use Rattle.group_directory.proofs.StandLaws.{stands_opened, stands_deepened, stands_fixed, stands_staged, stands_removed}
use Rattle.group_directory.proofs.standing.transactions_keep_standing.Goals as goal

pub returns-clause-opened : goal.returns-clause-opened
returns-clause-opened c = λ directory changes txns session number depth j. stands_opened directory changes j txns session number depth

pub returns-clause-deepened : goal.returns-clause-deepened
returns-clause-deepened c = λ directory changes txns session depth j. stands_deepened directory changes j txns session depth

pub returns-clause-fixed : goal.returns-clause-fixed
returns-clause-fixed c = λ directory changes txns session j. stands_fixed directory changes j txns session

pub returns-clause-staged : goal.returns-clause-staged
returns-clause-staged c = λ directory changes txns session s writes j. stands_staged directory changes j txns session s writes

pub returns-clause-removed : goal.returns-clause-removed
returns-clause-removed c = λ directory changes txns session j. stands_removed directory changes j txns session
