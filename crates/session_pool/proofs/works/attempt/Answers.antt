use Rattle.std.proofs.Common.{sym, ap, subst, ◌∙◌, Contains}
use Rattle.history_gate.specs.Histories.{own_numbers}
use Rattle.cs_model.specs.declared.work.Actor.TheVariants.{Session}
use Rattle.group_log.specs.Followed.{ground_of}
use Rattle.statement_core.specs.Reorganizes.{MayBegin}
use Rattle.session_pool.specs.Events.{entries_in, held_in}
use Rattle.session_pool.specs.Sections.{IsFound}
use Rattle.session_pool.specs.Works.{Attempts}
use Rattle.session_pool.proofs.Own.{own_events}
use Rattle.session_pool.proofs.Pools.{seen_from}
use Rattle.session_pool.proofs.Working.{attempt_grows, attempt_works, attempt_worth}
use Rattle.session_pool.proofs.works.attempt.Goals as goal

pub attempt-attempt-requires-clause-may : goal.attempt-attempt-requires-clause-may
attempt-attempt-requires-clause-may g c =
    let held = c.enter-held.ensures in
    subst (λ events. MayBegin (ground_of g.J.Made.schema g.J.Made.sizes) (entries_in events) (Session c.args.session)) (sym (c.value.ensures.value ∙ held.value)) (c.requires.may c.enter-held.result.found (record { seen = held.seen; own = held.own }))

pub attempt-attempt-requires-clause-free : goal.attempt-attempt-requires-clause-free
attempt-attempt-requires-clause-free g c =
    let held = c.enter-held.ensures in
    ap held_in (own_events c.args.session c.args.pass.own c.enter-held.result.found c.value.result.now (c.value.ensures.value ∙ held.value) held.own c.requires.number) ∙ c.requires.free

pub leave-requires-clause-grows : goal.leave-requires-clause-grows
leave-requires-clause-grows g c =
    let held = c.enter-held.ensures in
    attempt_grows c.args.session (own_numbers c.enter-held.result.own) c.enter-held.result.found c.value.result.now c.attempt-attempt.new.self (c.value.ensures.value ∙ held.value)
    (subst (λ own. Contains (own_numbers own) c.args.session) (sym held.pass.1) c.requires.number) c.attempt-attempt.result c.attempt-attempt.ensures.events

pub returns-clause-works : goal.returns-clause-works
returns-clause-works g c =
    let held = c.enter-held.ensures in
    let left = c.leave.ensures in
    let found : IsFound c.args.pass c.enter-held.result.found = record { seen = held.seen; own = held.own } in
    let same = c.value.ensures.value ∙ held.value in
    (attempt_works c.args.session c.args.pass c.leave.result (left.pass.0 ∙ held.pass.0) (left.pass.1 ∙ held.pass.2) c.requires.number c.requires.told left.told c.enter-held.result.found c.value.result.now c.attempt-attempt.new.self found same left.seen c.enter-held.result.own held.pass.1 left.one left.none c.requires.free c.attempt-attempt.result c.attempt-attempt.ensures.events).0

pub returns-clause-lent : goal.returns-clause-lent
returns-clause-lent g c =
    let held = c.enter-held.ensures in
    let left = c.leave.ensures in
    let found : IsFound c.args.pass c.enter-held.result.found = record { seen = held.seen; own = held.own } in
    let same = c.value.ensures.value ∙ held.value in
    (attempt_works c.args.session c.args.pass c.leave.result (left.pass.0 ∙ held.pass.0) (left.pass.1 ∙ held.pass.2) c.requires.number c.requires.told left.told c.enter-held.result.found c.value.result.now c.attempt-attempt.new.self found same left.seen c.enter-held.result.own held.pass.1 left.one left.none c.requires.free c.attempt-attempt.result c.attempt-attempt.ensures.events).1

pub returns-clause-mendable : goal.returns-clause-mendable
returns-clause-mendable g c = attempt_worth c.args.session c.value.result.now c.attempt-attempt.new.self c.attempt-attempt.result c.attempt-attempt.ensures.events

pub returns-clause-log : goal.returns-clause-log
returns-clause-log g c =
    let held = c.enter-held.ensures in
    let left = c.leave.ensures in
    let found : IsFound c.args.pass c.enter-held.result.found = record { seen = held.seen; own = held.own } in
    let same = c.value.ensures.value ∙ held.value in
    let origin = (ground_of g.J.Made.schema g.J.Made.sizes) in (
      c.enter-held.result.found,
      found,
      seen_from (λ o before after. Attempts o c.args.session c.attempt-attempt.result before after) origin origin (entries_in c.value.result.now) (entries_in c.attempt-attempt.new.self) (entries_in c.enter-held.result.found) (entries_in c.leave.result.seen)
          (λ i. origin) (ap entries_in (sym same)) (ap entries_in left.seen) c.attempt-attempt.ensures.log,
    )
