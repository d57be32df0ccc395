use Rattle.group_directory.proofs.MoverLaws.{stands_cleared}
use Rattle.group_directory.proofs.directory.Directory.clear.Goals as goal

pub returns-clause-stands : goal.returns-clause-stands
returns-clause-stands c = λ changes j. let done = c.clear.ensures in stands_cleared c.args.self.now changes j c.clear.new.list done.held done.claims done.book done.listed done.packed
