use Rattle.std.proofs.Common.{sym, subst, ◌∙◌}
use Rattle.group_log.specs.Followed.{ground_of}
use Rattle.cs_model.specs.declared.work.Actor.TheVariants.{Session}
use Rattle.statement_core.specs.Reorganizes.{IsClosing}
use Rattle.script_runner.specs.Moves.{Moved, StopsShort}
use Rattle.script_runner.proofs.Moving.{closes_may, looked_closed, looked_nothing, short_close}
use Rattle.script_runner.proofs.Steps.{at_err}
use Rattle.script_runner.proofs.moves.look_first.Goals as goal

pub close_opened-requires-clause-may : goal.close_opened-requires-clause-may
close_opened-requires-clause-may c =
    let core = c.args.core.now in
    closes_may (ground_of core.schema core.sizes) core.log c.args.session c.args.course.now c.requires.course (sym c.closes.ensures ∙ c.if-not-closes.false)

pub returns-in_ok-closed-clause-looked : goal.returns-in_ok-closed-clause-looked
returns-in_ok-closed-clause-looked c =
    let core = c.args.core.now in
    let origin = ground_of core.schema core.sizes in
    looked_closed origin core.log c.args.session c.args.course.now c.requires.course c.close_opened.new.self.log c.closed.new.self c.in-Some.group
    (subst (λ closed. IsClosing origin core.log (Session c.args.session) closed c.close_opened.new.self.log) c.in-Some.is c.in_ok-group.ensures.closes) c.in_ok-closed.ensures.ok

pub returns-in_default-clause-looked : goal.returns-in_default-clause-looked
returns-in_default-clause-looked c =
    let core = c.args.core.now in
    let origin = ground_of core.schema core.sizes in
    looked_nothing origin core.log c.args.session c.args.course.now c.requires.course c.close_opened.new.self.log
    (subst (λ closed. IsClosing origin core.log (Session c.args.session) closed c.close_opened.new.self.log) c.in_default.is c.in_ok-group.ensures.closes)

pub returns-in_err-closed-clause-short : goal.returns-in_err-closed-clause-short
returns-in_err-closed-clause-short c =
    let core = c.args.core.now in
    let origin = ground_of core.schema core.sizes in
    at_err (Moved c.args.session core.log c.close_opened.new.self.log (StopsShort origin core.log c.args.session)) c.from_residual-in_err-closed.result
    (short_close origin core.log c.args.session c.args.course.now c.requires.course c.close_opened.new.self.log c.in-Some.group
    (subst (λ closed. IsClosing origin core.log (Session c.args.session) closed c.close_opened.new.self.log) c.in-Some.is c.in_ok-group.ensures.closes))
