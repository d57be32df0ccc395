use Rattle.std.proofs.Common.{ap, ◌∙◌}
use Rattle.std.specs.Prelude.{slice_get}
use Rattle.cs_model.specs.Actors.{is_begun, has_ended}
use Rattle.script_turns.specs.Turns.{texts_of}
use Rattle.session_pool.specs.Events.{held_in}
use Rattle.session_pool.proofs.Own.{own_events, own_entries, own_statements, start_added}
use Rattle.session_pool.proofs.sections.start.Goals as goal

pub start-started-requires-clause-rests : goal.start-started-requires-clause-rests
start-started-requires-clause-rests g c =
    let held = c.enter-held.ensures in
    ap is_begun (own_entries c.args.session c.args.pass.own c.enter-held.result.found c.value.result.now (c.value.ensures.value ∙ held.value) held.own c.requires.number) ∙ c.requires.rests

pub start-started-requires-clause-going : goal.start-started-requires-clause-going
start-started-requires-clause-going g c =
    let held = c.enter-held.ensures in
    ap has_ended (own_entries c.args.session c.args.pass.own c.enter-held.result.found c.value.result.now (c.value.ensures.value ∙ held.value) held.own c.requires.number) ∙ c.requires.going

pub start-started-requires-clause-meant : goal.start-started-requires-clause-meant
start-started-requires-clause-meant g c =
    let held = c.enter-held.ensures in
    let meant = c.requires.meant in (
      meant.0,
      ap (slice_get (texts_of c.args.session g.J.Made.lines)) (own_statements c.args.session c.args.pass.own c.enter-held.result.found c.value.result.now (c.value.ensures.value ∙ held.value) held.own c.requires.number) ∙ meant.1,
      meant.2,
    )

pub returns-clause-own : goal.returns-clause-own
returns-clause-own g c =
    let held = c.enter-held.ensures in
    start_added c.enter-held.result.found c.value.result.now c.start-started.new.self c.args.pass.own c.enter-held.result.own c.leave.result.own (c.value.ensures.value ∙ held.value) held.pass.1 c.leave.ensures.one c.leave.ensures.none
    c.args.session c.args.bound c.start-started.result c.start-started.ensures.events c.start-started.ensures.err

pub start-started-requires-clause-free : goal.start-started-requires-clause-free
start-started-requires-clause-free g c =
    let held = c.enter-held.ensures in
    ap held_in (own_events c.args.session c.args.pass.own c.enter-held.result.found c.value.result.now (c.value.ensures.value ∙ held.value) held.own c.requires.number) ∙ c.requires.free
