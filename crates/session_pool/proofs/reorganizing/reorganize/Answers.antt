use Rattle.std.proofs.Common.{subst, IfOk}
use Rattle.group_log.specs.Followed.{ground_of}
use Rattle.statement_core.specs.Reorganizes.{IsLedgerAt}
use Rattle.session_pool.specs.Events.{entries_in}
use Rattle.session_pool.specs.Works.{HasStopped}
use Rattle.session_pool.proofs.Course.{begins_at, leaves_told}
use Rattle.session_pool.proofs.Working.{works_none, works_then}
use Rattle.session_pool.proofs.reorganizing.reorganize.Goals as goal

pub returns-in-Err-clause-works : goal.returns-in-Err-clause-works
returns-in-Err-clause-works g c = works_none c.args.session c.args.pass c.requires.told

pub look_first-pass-requires-clause-begun : goal.look_first-pass-requires-clause-begun
look_first-pass-requires-clause-begun g c = begins_at (ground_of g.J.Made.schema g.J.Made.sizes) c.args.session (entries_in c.args.pass.seen) c.args.all c.args.ledger.now c.in-Ok.course c.requires.ledger c.in-Ok.ensures

pub returns-in-Ok-made-clause-works : goal.returns-in-Ok-made-clause-works
returns-in-Ok-made-clause-works g c = works_then c.args.session c.args.pass c.look_first-pass.result.0 c.make_turns-pass.result.0 c.look_first-pass.ensures.works c.make_turns-pass.ensures.works

pub returns-in-Ok-made-clause-left : goal.returns-in-Ok-made-clause-left
returns-in-Ok-made-clause-left g c =
    let log = entries_in c.make_turns-pass.result.0.seen in
    let course = c.make_turns-pass.new.course in
    leaves_told (ground_of g.J.Made.schema g.J.Made.sizes) c.args.session log course c.in-Ok-made.last (subst (λ r. IfOk r (λ _. HasStopped (ground_of g.J.Made.schema g.J.Made.sizes) log c.args.session course)) c.in-Ok-made.is c.make_turns-pass.ensures.stopped)
    (subst (λ r. IfOk r (IsLedgerAt (ground_of g.J.Made.schema g.J.Made.sizes) log)) c.in-Ok-made.is c.make_turns-pass.ensures.ledger) c.left.result c.left.ensures

pub returns-clause-works : goal.returns-clause-works
returns-clause-works g c = works_then c.args.session c.args.pass c.look_first-pass.result.0 c.make_turns-pass.result.0 c.look_first-pass.ensures.works c.make_turns-pass.ensures.works
