use Rattle.std.proofs.Common.{refl}
use Rattle.group_directory.proofs.LentLaws.{stay_committed, stay_closed, stay_claimed, stay_installed, stay_flushed, stay_released, stay_cleared, stay_settled}
use Rattle.group_directory.proofs.lent.claimed_groups_stay.Goals as goal

pub returns-clause-commit : goal.returns-clause-commit
returns-clause-commit c = λ group_rows size number floor book changes claim replaced rest loads j in_list. stay_committed group_rows book changes floor j claim in_list size number replaced rest loads

pub returns-clause-close : goal.returns-clause-close
returns-clause-close c = λ group_rows floor book changes claim j in_list. stay_closed group_rows book changes floor j claim in_list

pub returns-clause-claim : goal.returns-clause-claim
returns-clause-claim c = λ group_rows floor at book changes claim actor choice sources j in_list. stay_claimed group_rows book changes floor j claim in_list actor choice sources at

pub returns-clause-flush_claim : goal.returns-clause-flush_claim
returns-clause-flush_claim c = λ book at claim actor sources. refl

pub returns-clause-install : goal.returns-clause-install
returns-clause-install c = λ group_rows floor book changes claim other versions j in_list in_other by. stay_installed group_rows book changes floor j claim other in_list in_other by versions

pub returns-clause-flush : goal.returns-clause-flush
returns-clause-flush c = λ group_rows floor book changes claim other j in_list in_other by. stay_flushed group_rows book changes floor j claim other in_list in_other by

pub returns-clause-release : goal.returns-clause-release
returns-clause-release c = λ group_rows floor book changes claim other j in_list in_other. stay_released group_rows book changes floor j claim other in_list in_other

pub returns-clause-clear : goal.returns-clause-clear
returns-clause-clear c = λ group_rows floor book changes claim j in_list. stay_cleared group_rows book changes floor j claim in_list

pub returns-clause-settle : goal.returns-clause-settle
returns-clause-settle c = stay_settled
