use Rattle.group_directory.proofs.StandLaws.{staged_or_same}
use Rattle.group_directory.proofs.directory.Directory.stage.Goals as goal

pub returns-clause-stands : goal.returns-clause-stands
returns-clause-stands c = λ changes s j may. staged_or_same c.args.self.now changes j c.stage.new.self c.args.session s c.args.writes.items may c.stage.result c.stage.ensures.ok c.stage.ensures.err
