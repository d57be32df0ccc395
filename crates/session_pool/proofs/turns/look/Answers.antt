use Rattle.std.proofs.Common.{◌+◌, ap, ◌∙◌}
use Rattle.session_pool.specs.Events.{held_in}
use Rattle.session_pool.proofs.Own.{own_events, look_added}
use Rattle.session_pool.proofs.turns.look.Goals as goal

pub look-turned-requires-clause-free : goal.look-turned-requires-clause-free
look-turned-requires-clause-free g c =
    let held = c.enter-held.ensures in
    ap held_in (own_events (64 + c.args.mover) c.args.pass.own c.enter-held.result.found c.value.result.now (c.value.ensures.value ∙ held.value) held.own c.requires.number) ∙ c.requires.free

pub returns-clause-own : goal.returns-clause-own
returns-clause-own g c =
    let held = c.enter-held.ensures in
    look_added c.enter-held.result.found c.value.result.now c.look-turned.new.self c.args.pass.own c.enter-held.result.own c.leave.result.own (c.value.ensures.value ∙ held.value) held.pass.1 c.leave.ensures.one c.leave.ensures.none
    c.args.mover c.look-turned.result c.look-turned.ensures
