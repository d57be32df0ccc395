use Rattle.std.proofs.Common.{None, sym, ap, subst, ◌∙◌}
use Rattle.cs_model.specs.Actors.{number_of}
use Rattle.group_book.specs.Choices.{install_work}
use Rattle.group_log.specs.Followed.{ground_of}
use Rattle.statement_core.specs.Reorganizes.{MayEnd}
use Rattle.session_pool.specs.Events.{entries_in, held_in}
use Rattle.session_pool.specs.Sections.{EndedBy}
use Rattle.session_pool.proofs.Own.{own_events, grown_added}
use Rattle.session_pool.proofs.Pools.{seen_from}
use Rattle.session_pool.proofs.turns.install.Goals as goal

pub install-requires-clause-may : goal.install-requires-clause-may
install-requires-clause-may g c =
    let held = c.enter-held.ensures in
    subst (λ events. MayEnd (ground_of g.J.Made.schema g.J.Made.sizes) (entries_in events) c.args.actor) (sym (c.value.ensures.value ∙ held.value)) (c.requires.may c.enter-held.result.found (record { seen = held.seen; own = held.own }))

pub install-requires-clause-held : goal.install-requires-clause-held
install-requires-clause-held g c =
    let held = c.enter-held.ensures in
    let lent = c.requires.held in (
      lent.0,
      ap held_in (own_events (number_of c.args.actor) c.args.pass.own c.enter-held.result.found c.value.result.now (c.value.ensures.value ∙ held.value) held.own c.requires.number) ∙ lent.1,
      lent.2,
    )

pub returns-clause-own : goal.returns-clause-own
returns-clause-own g c =
    let held = c.enter-held.ensures in
    grown_added c.enter-held.result.found c.value.result.now c.install.new.self c.args.pass.own c.enter-held.result.own c.leave.result.own (c.value.ensures.value ∙ held.value) held.pass.1 c.leave.ensures.one
    (number_of c.args.actor) None c.install.ensures.events

pub returns-clause-ends : goal.returns-clause-ends
returns-clause-ends g c =
    let held = c.enter-held.ensures in
    let origin = ground_of g.J.Made.schema g.J.Made.sizes in (
      c.enter-held.result.found,
      record { seen = held.seen; own = held.own },
      seen_from (λ o before after. EndedBy install_work o c.args.actor before after) origin origin (entries_in c.value.result.now) (entries_in c.install.new.self) (entries_in c.enter-held.result.found) (entries_in c.leave.result.seen)
          (λ i. origin) (ap entries_in (sym (c.value.ensures.value ∙ held.value))) (ap entries_in c.leave.ensures.seen) c.install.ensures.ends,
    )
