use Rattle.std.proofs.Common.{◌∙◌}
use Rattle.group_log.specs.Followed.{ground_of}
use Rattle.session_pool.proofs.Working.{look_works, look_finds}
use Rattle.session_pool.proofs.works.look_on.Goals as goal

pub returns-clause-works : goal.returns-clause-works
returns-clause-works g c =
    let held = c.enter-held.ensures in
    let left = c.leave.ensures in
    look_works c.args.session c.args.pass c.leave.result (left.pass.0 ∙ held.pass.0) (left.pass.1 ∙ held.pass.2) c.requires.number c.requires.told left.told c.enter-held.result.found
    (record { seen = held.seen; own = held.own }) (left.none (c.value.ensures.value ∙ held.value) ∙ held.pass.1) (left.seen ∙ (c.value.ensures.value ∙ held.value))

pub returns-clause-ledger : goal.returns-clause-ledger
returns-clause-ledger g c =
    let held = c.enter-held.ensures in
    look_finds (ground_of g.J.Made.schema g.J.Made.sizes) c.args.pass c.enter-held.result.found c.value.result.now c.leave.result.seen (record { seen = held.seen; own = held.own }) (c.value.ensures.value ∙ held.value) c.leave.ensures.seen
    c.ledger-ledger.result c.ledger-ledger.ensures
