use Rattle.std.proofs.Common.{ap}
use Rattle.txn_table.specs.Txns.{snapshot_of}
use Rattle.group_directory.proofs.StandLaws.{stands_opened}
use Rattle.group_directory.proofs.directory.Directory.begin.Goals as goal

pub returns-clause-stands : goal.returns-clause-stands
returns-clause-stands c = λ changes j. stands_opened c.args.self.now changes j c.begin.new.self c.args.session c.args.self.now.txns.next c.args.depth (ap snapshot_of c.requires.closed) c.begin.ensures.txns
