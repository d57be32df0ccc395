use Rattle.std.proofs.Common.{sym, ap, subst, set, ◌∙◌}
use Rattle.script_reader.specs.Reading.{HasPlace}
use Rattle.script_reader.proofs.Halves.{marked_session, marked_mover}
use Rattle.script_reader.proofs.read.HalfDone.mark.Goals as goal

pub returns-in-Session : goal.returns-in-Session
returns-in-Session c = λ steps m.
    let by = sym c.taken_by.ensures ∙ c.in-Session.is in
    marked_session c.args.self.now steps c.args.step.now m c.in-Session.session _ by (subst HasPlace by c.requires) (ap (set c.args.self.now.sessions c.in-Session.session) c.is_begun.ensures)

pub returns-in-Mover : goal.returns-in-Mover
returns-in-Mover c = λ steps m.
    let by = sym c.taken_by.ensures ∙ c.in-Mover.is in
    marked_mover c.args.self.now steps c.args.step.now m c.in-Mover.mover _ by (subst HasPlace by c.requires) (ap (set c.args.self.now.movers c.in-Mover.mover) c.is_begun-in-Mover.ensures)
