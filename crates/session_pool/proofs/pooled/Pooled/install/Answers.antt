use Rattle.std.proofs.Common.{sym, ap, ◌∙◌}
use Rattle.cs_model.specs.Actors.{number_of}
use Rattle.group_book.specs.Choices.{install_work}
use Rattle.group_directory.specs.Installing.{held_by}
use Rattle.group_log.specs.Followed.{ground_of}
use Rattle.statement_core.specs.Reorganizes.{MayEnd}
use Rattle.session_pool.specs.Events.{events_by, events_of, held_in}
use Rattle.session_pool.specs.Sections.{EndedBy}
use Rattle.session_pool.proofs.Claims.{lent_mended}
use Rattle.session_pool.proofs.Events.{entries_are, entries_from}
use Rattle.session_pool.proofs.Pools.{numbered, seen_as, seen_from}
use Rattle.session_pool.proofs.Turning.{keeps_over, over_events}
use Rattle.session_pool.proofs.pooled.Pooled.install.Goals as goal

pub install-requires-clause-may : goal.install-requires-clause-may
install-requires-clause-may g c =
    let p = c.self.inside in
    let pool = c.self.invariant.1 in
    seen_as (λ origin log. MayEnd origin log c.args.actor) (ground_of g.J.Made.schema g.J.Made.sizes) (ground_of p.core.schema p.core.sizes) _ p.core.log (λ i. ground_of (sym pool.schema_is i) (sym pool.sizes_are i)) (sym (entries_are p.lent.items p.core.log c.args.self.now c.self.view_is)) c.requires.may

pub install-requires-clause-product : goal.install-requires-clause-product
install-requires-clause-product g c =
    let p = c.self.inside in
    let pool = c.self.invariant.1 in
    let held = c.requires.held in
    lent_mended (held_by c.args.actor p.core.claims) (held_in (events_by (number_of c.args.actor) (events_of p.lent.items p.core.log))) held.0 c.args.product
    (pool.claims.lent c.args.actor (numbered g.J.Made.schema g.J.Made.sizes g.J.Made.sessions g.J.Made.lines p.lent.items p.core c.self.invariant c.args.actor c.requires.known)) (ap (λ es. held_in (events_by (number_of c.args.actor) es)) c.self.view_is ∙ held.1) held.2

pub invariant_of-self : goal.invariant_of-self
invariant_of-self g c =
    let p = c.self.inside in
    let x = c.install.ensures in
    keeps_over g.J.Made.schema g.J.Made.sizes g.J.Made.sessions g.J.Made.lines p.lent.items p.core c.self.invariant c.args.actor c.requires.known c.install.new.self x.schema x.sizes x.sessions install_work (ground_of p.core.schema p.core.sizes) x.ends x.claims

pub returns-clause-events : goal.returns-clause-events
returns-clause-events g c =
    let p = c.self.inside in
    let x = c.install.ensures in
    over_events g.J.Made.schema g.J.Made.sizes g.J.Made.sessions g.J.Made.lines p.lent.items p.core c.self.invariant c.args.actor c.requires.known c.install.new.self x.schema x.sizes x.sessions install_work (ground_of p.core.schema p.core.sizes) x.ends c.args.self.now c.self.view_is

pub returns-clause-ends : goal.returns-clause-ends
returns-clause-ends g c =
    let p = c.self.inside in
    let pool = c.self.invariant.1 in
    seen_from (λ origin before after. EndedBy install_work origin c.args.actor before after) (ground_of p.core.schema p.core.sizes) (ground_of g.J.Made.schema g.J.Made.sizes) p.core.log c.install.new.self.log _ _
    (λ i. ground_of (pool.schema_is i) (pool.sizes_are i)) (entries_are p.lent.items p.core.log c.args.self.now c.self.view_is) (entries_from p.lent.items 0 c.install.new.self.log) c.install.ensures.ends
