use Rattle.group_directory.proofs.RecentLaws.{recent_none, recent_new, recent_pruned, recent_clear, noted_newer}
use Rattle.group_directory.proofs.laws.newest_changes_agree.Goals as goal

pub returns-clause-new : goal.returns-clause-new
returns-clause-new c = recent_none

pub returns-clause-commit : goal.returns-clause-commit
returns-clause-commit c = λ pruned clock txn noted changes own j. recent_new pruned noted changes j clock txn own

pub returns-clause-prune : goal.returns-clause-prune
returns-clause-prune c = λ pruned at noted left changes j. recent_pruned pruned noted changes j at left

pub returns-clause-clear : goal.returns-clause-clear
returns-clause-clear c = recent_clear

pub returns-clause-newer : goal.returns-clause-newer
returns-clause-newer c = λ pruned clock noted changes note keys key j. noted_newer pruned noted changes j clock note keys key
