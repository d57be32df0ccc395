use Rattle.group_directory.proofs.StandLaws.{stands_pruned}
use Rattle.group_directory.proofs.directory.Directory.prune.Goals as goal

pub returns-clause-stands : goal.returns-clause-stands
returns-clause-stands c = λ changes j. stands_pruned c.args.self.now changes j c.prune.new.self c.floor-floor.result c.len-self.result c.floor-floor.ensures c.prune.ensures.changes
