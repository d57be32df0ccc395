use Rattle.group_directory.proofs.LookLaws.{pinned_there, pinned_taken}
use Rattle.group_directory.proofs.StandLaws.{stands_fixed}
use Rattle.group_directory.proofs.directory.Directory.pin.Goals as goal

pub snapshot-requires-clause-open : goal.snapshot-requires-clause-open
snapshot-requires-clause-open c = pinned_there c.args.self.now c.look.new.self c.fix.new.self c.args.session c.look.ensures.rest c.requires.open c.fix.ensures.txns

pub unreachable-requires : goal.unreachable-requires
unreachable-requires c = pinned_taken c.args.self.now c.look.new.self c.fix.new.self c.args.session c.look.ensures.rest c.requires.open c.fix.ensures.txns c.snapshot.result c.snapshot.ensures c.in-None.is

pub returns-clause-stands : goal.returns-clause-stands
returns-clause-stands c = λ changes j. stands_fixed c.look.new.self changes (c.look.ensures.stands changes j) c.fix.new.self c.args.session c.fix.ensures.txns
