use Rattle.std.proofs.Common.{◌≡◌, List, ℕ, refl}
use Rattle.cs_model.specs.declared.work.Actor.{Actor}
use Rattle.cs_model.specs.declared.work.Actor.TheVariants.{Session}
use Rattle.group_book.specs.Book.{Book}
use Rattle.group_log.specs.Followed.{ground_of}
use Rattle.group_log.specs.Reorganizing.{held_groups, AreLeft}
use Rattle.script_runner.specs.Moves.{StopsShort, LeavesBoth, Moved}
use Rattle.script_runner.proofs.Moving.{moved_blind, moved_left, ok_more}
use Rattle.script_runner.proofs.Steps.{at_err}
use Rattle.script_runner.proofs.moves.make_moves.Goals as goal

pub returns-in_err-last-clause-short : goal.returns-in_err-last-clause-short
returns-in_err-last-clause-short g c =
    let core = c.args.core.now in
    let origin = ground_of core.schema core.sizes in
    let now = c.make_turns.new.core in
    at_err (Moved c.args.session core.log now.log (StopsShort origin core.log c.args.session)) c.from_residual-in_err-last.result
    (moved_blind origin origin core.log now.log c.args.session c.in_ok-course.course (refl {a = origin}) c.in_ok-course.ensures.turned)

pub returns-clause-left : goal.returns-clause-left
returns-clause-left g c =
    let core = c.args.core.now in
    let origin = ground_of core.schema core.sizes in
    let now = c.make_turns.new.core in
    let last = c.in_ok-last.last in
    let course = c.in_ok-course.course in
    ok_more (λ (left : List (ℕ × Actor)). (b : Book) → last.holders ≡ held_groups b → AreLeft course.marked (Session c.args.session) b left)
    (λ left. Moved c.args.session core.log now.log (LeavesBoth origin core.log c.args.session left)) c.left.result
    (λ left are. moved_left origin (ground_of now.schema now.sizes) core.log now.log c.args.session course (λ i. ground_of (c.in_ok-course.ensures.schema i) (c.in_ok-course.ensures.sizes i)) c.in_ok-course.ensures.turned last left c.in_ok-last.ensures are)
    c.left.ensures

pub returns-clause-short : goal.returns-clause-short
returns-clause-short g c =
    let core = c.args.core.now in
    let origin = ground_of core.schema core.sizes in
    let now = c.make_turns.new.core in
    at_err (Moved c.args.session core.log now.log (StopsShort origin core.log c.args.session)) c.left.result
    (moved_blind origin origin core.log now.log c.args.session c.in_ok-course.course (refl {a = origin}) c.in_ok-course.ensures.turned)
