use Rattle.std.proofs.Common.{sym, subst}
use Rattle.std.specs.Prelude.{IsSome}
use Rattle.cs_model.specs.Actors.{number_of}
use Rattle.group_book.specs.Choices.{release_work}
use Rattle.group_directory.specs.Installing.{held_by}
use Rattle.group_log.specs.Followed.{ground_of}
use Rattle.statement_core.specs.Reorganizes.{MayEnd}
use Rattle.session_pool.specs.Events.{events_by, events_of, held_in}
use Rattle.session_pool.specs.Sections.{EndedBy}
use Rattle.session_pool.proofs.Claims.{lent_held}
use Rattle.session_pool.proofs.Events.{entries_are, entries_from}
use Rattle.session_pool.proofs.Pools.{numbered, seen_as, seen_from}
use Rattle.session_pool.proofs.Turning.{keeps_over, over_events}
use Rattle.session_pool.proofs.pooled.Pooled.release.Goals as goal

pub release-requires-clause-may : goal.release-requires-clause-may
release-requires-clause-may g c =
    let p = c.self.inside in
    let pool = c.self.invariant.1 in
    seen_as (λ origin log. MayEnd origin log c.args.actor) (ground_of g.J.Made.schema g.J.Made.sizes) (ground_of p.core.schema p.core.sizes) _ p.core.log (λ i. ground_of (sym pool.schema_is i) (sym pool.sizes_are i)) (sym (entries_are p.lent.items p.core.log c.args.self.now c.self.view_is)) c.requires.may

pub release-requires-clause-holds : goal.release-requires-clause-holds
release-requires-clause-holds g c =
    let p = c.self.inside in
    let pool = c.self.invariant.1 in
    lent_held (held_by c.args.actor p.core.claims) (held_in (events_by (number_of c.args.actor) (events_of p.lent.items p.core.log)))
    (pool.claims.lent c.args.actor (numbered g.J.Made.schema g.J.Made.sizes g.J.Made.sessions g.J.Made.lines p.lent.items p.core c.self.invariant c.args.actor c.requires.known)) (subst (λ es. IsSome (held_in (events_by (number_of c.args.actor) es))) (sym c.self.view_is) c.requires.holds)

pub invariant_of-self : goal.invariant_of-self
invariant_of-self g c =
    let p = c.self.inside in
    let x = c.release.ensures in
    keeps_over g.J.Made.schema g.J.Made.sizes g.J.Made.sessions g.J.Made.lines p.lent.items p.core c.self.invariant c.args.actor c.requires.known c.release.new.self x.schema x.sizes x.sessions release_work (ground_of p.core.schema p.core.sizes) x.ends x.claims

pub returns-clause-events : goal.returns-clause-events
returns-clause-events g c =
    let p = c.self.inside in
    let x = c.release.ensures in
    over_events g.J.Made.schema g.J.Made.sizes g.J.Made.sessions g.J.Made.lines p.lent.items p.core c.self.invariant c.args.actor c.requires.known c.release.new.self x.schema x.sizes x.sessions release_work (ground_of p.core.schema p.core.sizes) x.ends c.args.self.now c.self.view_is

pub returns-clause-ends : goal.returns-clause-ends
returns-clause-ends g c =
    let p = c.self.inside in
    let pool = c.self.invariant.1 in
    seen_from (λ origin before after. EndedBy release_work origin c.args.actor before after) (ground_of p.core.schema p.core.sizes) (ground_of g.J.Made.schema g.J.Made.sizes) p.core.log c.release.new.self.log _ _
    (λ i. ground_of (pool.schema_is i) (pool.sizes_are i)) (entries_are p.lent.items p.core.log c.args.self.now c.self.view_is) (entries_from p.lent.items 0 c.release.new.self.log) c.release.ensures.ends
