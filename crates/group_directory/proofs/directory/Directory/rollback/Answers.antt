use Rattle.group_directory.proofs.StandLaws.{stands_removed}
use Rattle.group_directory.proofs.directory.Directory.rollback.Goals as goal

pub returns-clause-stands : goal.returns-clause-stands
returns-clause-stands c = λ changes j. stands_removed c.args.self.now changes j c.remove.new.self c.args.session c.remove.ensures.txns
