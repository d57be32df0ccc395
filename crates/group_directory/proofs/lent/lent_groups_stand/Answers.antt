use Rattle.group_directory.proofs.LentLaws.{all_lent, others_lent, share_lent}
use Rattle.group_directory.proofs.lent.lent_groups_stand.Goals as goal

pub returns-clause-all : goal.returns-clause-all
returns-clause-all c = all_lent

pub returns-clause-others : goal.returns-clause-others
returns-clause-others c = others_lent

pub returns-clause-share : goal.returns-clause-share
returns-clause-share c = share_lent
