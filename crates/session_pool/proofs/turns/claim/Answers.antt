use Rattle.std.proofs.Common.{◌+◌, ap, ◌∙◌}
use Rattle.group_log.specs.Followed.{ground_of}
use Rattle.session_pool.specs.Events.{entries_in, held_in}
use Rattle.session_pool.proofs.Own.{own_events, claim_added, claim_last}
use Rattle.session_pool.proofs.turns.claim.Goals as goal

pub claim-turned-requires-clause-free : goal.claim-turned-requires-clause-free
claim-turned-requires-clause-free g c =
    let held = c.enter-held.ensures in
    ap held_in (own_events (64 + c.args.mover) c.args.pass.own c.enter-held.result.found c.value.result.now (c.value.ensures.value ∙ held.value) held.own c.requires.number) ∙ c.requires.free

pub returns-clause-own : goal.returns-clause-own
returns-clause-own g c =
    let held = c.enter-held.ensures in
    claim_added c.enter-held.result.found c.value.result.now c.claim-turned.new.self c.args.pass.own c.enter-held.result.own c.leave.result.own (c.value.ensures.value ∙ held.value) held.pass.1 c.leave.ensures.one c.leave.ensures.none
    c.args.mover c.claim-turned.result c.claim-turned.ensures.events

pub returns-clause-last : goal.returns-clause-last
returns-clause-last g c =
    claim_last (ground_of g.J.Made.schema g.J.Made.sizes) (entries_in c.value.result.now) (entries_in c.claim-turned.new.self) (entries_in c.leave.result.seen) c.args.mover (ap entries_in c.leave.ensures.seen) c.claim-turned.result c.claim-turned.ensures.begins
