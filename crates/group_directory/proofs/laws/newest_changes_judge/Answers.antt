use Rattle.group_directory.proofs.RecentLaws.{judged, named}
use Rattle.group_directory.proofs.laws.newest_changes_judge.Goals as goal

pub returns-clause-above : goal.returns-clause-above
returns-clause-above c = λ pruned s noted changes key j reach. judged pruned noted changes j s reach key

pub returns-clause-named : goal.returns-clause-named
returns-clause-named c = λ pruned noted changes key note j. named pruned noted changes j key note
