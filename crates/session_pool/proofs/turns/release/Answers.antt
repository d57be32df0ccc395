use Rattle.std.proofs.Common.{None, sym, ap, subst, ◌∙◌}
use Rattle.std.specs.Prelude.{IsSome}
use Rattle.cs_model.specs.Actors.{number_of}
use Rattle.group_book.specs.Choices.{release_work}
use Rattle.group_log.specs.Followed.{ground_of}
use Rattle.statement_core.specs.Reorganizes.{MayEnd}
use Rattle.session_pool.specs.Events.{entries_in, held_in}
use Rattle.session_pool.specs.Sections.{EndedBy}
use Rattle.session_pool.proofs.Own.{own_events, grown_added}
use Rattle.session_pool.proofs.Pools.{seen_from}
use Rattle.session_pool.proofs.turns.release.Goals as goal

pub release-requires-clause-may : goal.release-requires-clause-may
release-requires-clause-may g c =
    let held = c.enter-held.ensures in
    subst (λ events. MayEnd (ground_of g.J.Made.schema g.J.Made.sizes) (entries_in events) c.args.actor) (sym (c.value.ensures.value ∙ held.value)) (c.requires.may c.enter-held.result.found (record { seen = held.seen; own = held.own }))

pub release-requires-clause-holds : goal.release-requires-clause-holds
release-requires-clause-holds g c =
    let held = c.enter-held.ensures in
    subst (λ events. IsSome (held_in events))
    (sym (own_events (number_of c.args.actor) c.args.pass.own c.enter-held.result.found c.value.result.now (c.value.ensures.value ∙ held.value) held.own c.requires.number)) c.requires.holds

pub returns-clause-own : goal.returns-clause-own
returns-clause-own g c =
    let held = c.enter-held.ensures in
    grown_added c.enter-held.result.found c.value.result.now c.release.new.self c.args.pass.own c.enter-held.result.own c.leave.result.own (c.value.ensures.value ∙ held.value) held.pass.1 c.leave.ensures.one
    (number_of c.args.actor) None c.release.ensures.events

pub returns-clause-ends : goal.returns-clause-ends
returns-clause-ends g c =
    let held = c.enter-held.ensures in
    let origin = ground_of g.J.Made.schema g.J.Made.sizes in (
      c.enter-held.result.found,
      record { seen = held.seen; own = held.own },
      seen_from (λ o before after. EndedBy release_work o c.args.actor before after) origin origin (entries_in c.value.result.now) (entries_in c.release.new.self) (entries_in c.enter-held.result.found) (entries_in c.leave.result.seen)
          (λ i. origin) (ap entries_in (sym (c.value.ensures.value ∙ held.value))) (ap entries_in c.leave.ensures.seen) c.release.ensures.ends,
    )
