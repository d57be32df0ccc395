use Rattle.group_directory.proofs.MoverLaws.{stands_settled}
use Rattle.group_directory.proofs.directory.Directory.settle.Goals as goal

pub returns-clause-stands : goal.returns-clause-stands
returns-clause-stands c = λ changes j. let done = c.in_ok-number.ensures in stands_settled c.args.self.now changes j c.settle.new.list done.held done.claims c.args.turn.floor c.requires.turn.at_floor done.book done.rows done.packed
