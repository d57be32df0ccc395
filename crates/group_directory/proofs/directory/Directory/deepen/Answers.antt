use Rattle.group_directory.proofs.StandLaws.{stands_deepened}
use Rattle.group_directory.proofs.directory.Directory.deepen.Goals as goal

pub returns-clause-stands : goal.returns-clause-stands
returns-clause-stands c = λ changes j. stands_deepened c.args.self.now changes j c.deepen.new.self c.args.session c.args.depth c.deepen.ensures.txns
