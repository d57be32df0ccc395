use Rattle.std.proofs.Common.{ap, ◌∙◌}
use Rattle.cs_model.specs.Actors.{is_begun, has_ended}
use Rattle.session_pool.specs.Events.{held_in}
use Rattle.session_pool.proofs.Own.{own_events, own_entries}
use Rattle.session_pool.proofs.sections.end.Goals as goal

pub end-requires-clause-rests : goal.end-requires-clause-rests
end-requires-clause-rests g c =
    let held = c.enter-held.ensures in
    ap is_begun (own_entries c.args.session c.args.pass.own c.enter-held.result.found c.value.result.now (c.value.ensures.value ∙ held.value) held.own c.requires.number) ∙ c.requires.rests

pub end-requires-clause-going : goal.end-requires-clause-going
end-requires-clause-going g c =
    let held = c.enter-held.ensures in
    ap has_ended (own_entries c.args.session c.args.pass.own c.enter-held.result.found c.value.result.now (c.value.ensures.value ∙ held.value) held.own c.requires.number) ∙ c.requires.going

pub end-requires-clause-free : goal.end-requires-clause-free
end-requires-clause-free g c =
    let held = c.enter-held.ensures in
    ap held_in (own_events c.args.session c.args.pass.own c.enter-held.result.found c.value.result.now (c.value.ensures.value ∙ held.value) held.own c.requires.number) ∙ c.requires.free
