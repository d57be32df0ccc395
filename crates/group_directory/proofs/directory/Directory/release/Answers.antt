use Rattle.group_directory.proofs.MoverLaws.{hidden, stands_released}
use Rattle.group_directory.proofs.directory.Directory.release.Goals as goal

pub release-requires-clause-held : goal.release-requires-clause-held
release-requires-clause-held c = c.requires.stands.1.held

pub release-requires-clause-hidden : goal.release-requires-clause-hidden
release-requires-clause-hidden c = hidden c.args.self.now c.requires.stands.0 c.requires.stands.1 c.args.actor

pub returns-clause-stands : goal.returns-clause-stands
returns-clause-stands c = λ changes j. let done = c.release.ensures in stands_released c.args.self.now changes j c.args.actor c.release.new.list done.held done.book done.claims done.listed done.packed
