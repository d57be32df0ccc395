use Rattle.std.proofs.Common.{refl, arith}
use Rattle.group_directory.specs.Laws.{noted_by}
use Rattle.group_directory.proofs.StandLaws.{stands_clear}
use Rattle.group_directory.proofs.directory.Directory.note.Goals as goal

pub returns-then-floor-self-clause-stands : goal.returns-then-floor-self-clause-stands
returns-then-floor-self-clause-stands c = λ changes given.
    let noted = given (record { changes = noted_by c.args.change c.args.self.now.recent.changes c.args.keys.now; spare = 0; run = 0; held = 0 }) refl in
    stands_clear _ changes noted c.forget.new.recent c.floor-floor.result 0 c.floor-floor.ensures (omega (arith, c.if-floor-self.true)) c.forget.ensures

pub returns-else-floor-self-clause-stands : goal.returns-else-floor-self-clause-stands
returns-else-floor-self-clause-stands c = λ changes given. c.prune.ensures.stands changes (given c.note_all.new.self c.note_all.ensures.changes)
