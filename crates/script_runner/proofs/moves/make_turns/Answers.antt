use Rattle.std.proofs.Common.{◌≤◌, ◌∙◌, subst, arith}
use Rattle.std.proofs.lemmas.Bool.Decides.{nat_tests}
use Rattle.group_log.specs.Followed.{ground_of}
use Rattle.statement_core.proofs.Courses.{course_begins}
use Rattle.script_runner.specs.Moves.{StopsShort, MakesTurn, Moved}
use Rattle.script_runner.proofs.Moving.{may_turn, moved_idle, moved_short, moved_turn}
use Rattle.script_runner.proofs.Steps.{at_err}
use Rattle.script_runner.proofs.moves.make_turns.Goals as goal

pub look_first-requires-clause-course : goal.look_first-requires-clause-course
look_first-requires-clause-course g c =
    let core = c.args.core.now in
    course_begins (ground_of core.schema core.sizes) core.log c.args.session c.args.all c.args.ledger.now c.in_ok-course.course c.requires.ledger c.in_ok-course.ensures

pub make_turn-requires-clause-may : goal.make_turn-requires-clause-may
make_turn-requires-clause-may g c κs within =
    let core = c.args.core.now in
    let kept = c.loop-alloc.invariant in
    let now = c.loop-alloc.core in
    let is = c.may_turn.ensures in
    let left = c.loop-alloc-test.true in
    let some : 1 ≤ c.loop-alloc.course.turns = grind (arith, nat_tests, is, left) in
    may_turn (ground_of core.schema core.sizes) (ground_of now.schema now.sizes) core.log now.log c.args.session c.loop-alloc.course (λ i. ground_of (kept.schema i) (kept.sizes i)) kept.moved some

pub returns-in_err-make_turn-clause-short : goal.returns-in_err-make_turn-clause-short
returns-in_err-make_turn-clause-short g c =
    let core = c.args.core.now in
    let kept = c.loop-alloc.invariant in
    let now = c.loop-alloc.core in
    let origin = ground_of core.schema core.sizes in
    at_err (Moved c.args.session core.log c.make_turn.new.core.log (StopsShort origin core.log c.args.session)) c.from_residual-in_err-make_turn.result
    (moved_short origin (ground_of now.schema now.sizes) core.log now.log c.args.session c.loop-alloc.course (λ i. ground_of (kept.schema i) (kept.sizes i)) kept.moved c.make_turn.new.core.log c.in_err-make_turn.ensures.short)

pub returns-then-not-branch-clause-turned : goal.returns-then-not-branch-clause-turned
returns-then-not-branch-clause-turned g c =
    let core = c.args.core.now in
    let kept = c.loop-alloc.invariant in
    let now = c.loop-alloc.core in
    let course = c.loop-alloc.course in
    let origin = ground_of core.schema core.sizes in
    let at = ground_of now.schema now.sizes in
    moved_idle origin at core.log now.log c.args.session course (λ i. ground_of (kept.schema i) (kept.sizes i)) kept.moved c.make_turn.new.course c.make_turn.new.core.log
    (subst (λ made. Moved c.args.session now.log c.make_turn.new.core.log (MakesTurn at c.args.session now.log course c.make_turn.new.course made)) c.if-not-branch.true c.in_ok-make_turn.ensures.turned)

pub loop-alloc-preserved : goal.loop-alloc-preserved
loop-alloc-preserved g c =
    let core = c.args.core.now in
    let kept = c.loop-alloc.invariant in
    let now = c.loop-alloc.core in
    let course = c.loop-alloc.course in
    let origin = ground_of core.schema core.sizes in
    let at = ground_of now.schema now.sizes in
    record {
      schema = c.make_turn.ensures.schema ∙ kept.schema;
      sizes = c.make_turn.ensures.sizes ∙ kept.sizes;
      sessions = c.make_turn.ensures.sessions ∙ kept.sessions;
      claims = c.make_turn.ensures.claims ∙ kept.claims;
      moved = moved_turn origin at core.log now.log c.args.session course (λ i. ground_of (kept.schema i) (kept.sizes i)) kept.moved c.make_turn.new.course c.make_turn.new.core.log
          (subst (λ made. Moved c.args.session now.log c.make_turn.new.core.log (MakesTurn at c.args.session now.log course c.make_turn.new.course made)) c.if-not-branch.false c.in_ok-make_turn.ensures.turned);
    }
