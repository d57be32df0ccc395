use Rattle.std.proofs.Common.{sym, ap, subst, ◌∙◌}
use Rattle.cs_model.specs.declared.work.Actor.TheVariants.{Session}
use Rattle.group_log.specs.Followed.{ground_of}
use Rattle.statement_core.specs.Reorganizes.{MayClose}
use Rattle.session_pool.specs.Events.{entries_in, held_in}
use Rattle.session_pool.specs.Sections.{IsFound}
use Rattle.session_pool.proofs.Own.{own_events}
use Rattle.session_pool.proofs.Working.{close_finds, close_works}
use Rattle.session_pool.proofs.works.close.Goals as goal

pub close_opened-closed-requires-clause-may : goal.close_opened-closed-requires-clause-may
close_opened-closed-requires-clause-may g c =
    let held = c.enter-held.ensures in
    subst (λ events. MayClose (ground_of g.J.Made.schema g.J.Made.sizes) (entries_in events) (Session c.args.session)) (sym (c.value.ensures.value ∙ held.value)) (c.requires.may c.enter-held.result.found (record { seen = held.seen; own = held.own }))

pub close_opened-closed-requires-clause-free : goal.close_opened-closed-requires-clause-free
close_opened-closed-requires-clause-free g c =
    let held = c.enter-held.ensures in
    ap held_in (own_events c.args.session c.args.pass.own c.enter-held.result.found c.value.result.now (c.value.ensures.value ∙ held.value) held.own c.requires.number) ∙ c.requires.free

pub returns-clause-works : goal.returns-clause-works
returns-clause-works g c =
    let held = c.enter-held.ensures in
    let left = c.leave.ensures in
    let found : IsFound c.args.pass c.enter-held.result.found = record { seen = held.seen; own = held.own } in
    let same = c.value.ensures.value ∙ held.value in
    (close_works c.args.session c.args.pass c.leave.result (left.pass.0 ∙ held.pass.0) (left.pass.1 ∙ held.pass.2) c.requires.number c.requires.told left.told c.enter-held.result.found c.value.result.now c.close_opened-closed.new.self found same left.seen c.enter-held.result.own held.pass.1 left.one left.none c.requires.free c.close_opened-closed.result c.close_opened-closed.ensures.events c.close_opened-closed.ensures.err).0

pub returns-clause-free : goal.returns-clause-free
returns-clause-free g c =
    let held = c.enter-held.ensures in
    let left = c.leave.ensures in
    let found : IsFound c.args.pass c.enter-held.result.found = record { seen = held.seen; own = held.own } in
    let same = c.value.ensures.value ∙ held.value in
    (close_works c.args.session c.args.pass c.leave.result (left.pass.0 ∙ held.pass.0) (left.pass.1 ∙ held.pass.2) c.requires.number c.requires.told left.told c.enter-held.result.found c.value.result.now c.close_opened-closed.new.self found same left.seen c.enter-held.result.own held.pass.1 left.one left.none c.requires.free c.close_opened-closed.result c.close_opened-closed.ensures.events c.close_opened-closed.ensures.err).1

pub returns-clause-closes : goal.returns-clause-closes
returns-clause-closes g c =
    let held = c.enter-held.ensures in
    close_finds (ground_of g.J.Made.schema g.J.Made.sizes) c.args.session c.args.pass c.enter-held.result.found c.value.result.now c.close_opened-closed.new.self c.leave.result.seen (record { seen = held.seen; own = held.own }) (c.value.ensures.value ∙ held.value) c.leave.ensures.seen
    c.close_opened-closed.result c.close_opened-closed.ensures.closes
