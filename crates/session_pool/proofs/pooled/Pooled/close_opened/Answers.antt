use Rattle.std.proofs.Common.{sym, IfOk}
use Rattle.cs_model.specs.declared.work.Actor.TheVariants.{Session}
use Rattle.group_log.specs.Followed.{ground_of}
use Rattle.statement_core.specs.Reorganizes.{IsClosing, MayClose}
use Rattle.session_pool.proofs.Events.{entries_are, entries_from}
use Rattle.session_pool.proofs.Pools.{holds_none, seen_as, seen_from}
use Rattle.session_pool.proofs.Turning.{close_events, keeps_close}
use Rattle.session_pool.proofs.pooled.Pooled.close_opened.Goals as goal

pub close_opened-requires-clause-may : goal.close_opened-requires-clause-may
close_opened-requires-clause-may g c =
    let p = c.self.inside in
    let pool = c.self.invariant.1 in
    seen_as (λ origin log. MayClose origin log (Session c.args.session)) (ground_of g.J.Made.schema g.J.Made.sizes) (ground_of p.core.schema p.core.sizes) _ p.core.log (λ i. ground_of (sym pool.schema_is i) (sym pool.sizes_are i)) (sym (entries_are p.lent.items p.core.log c.args.self.now c.self.view_is)) c.requires.may

pub close_opened-requires-clause-free : goal.close_opened-requires-clause-free
close_opened-requires-clause-free g c =
    let p = c.self.inside in
    holds_none g.J.Made.schema g.J.Made.sizes g.J.Made.sessions g.J.Made.lines p.lent.items p.core c.self.invariant (Session c.args.session) c.requires.known c.args.self.now c.self.view_is c.requires.free

pub invariant_of-self : goal.invariant_of-self
invariant_of-self g c =
    let p = c.self.inside in
    let x = c.close_opened.ensures in
    keeps_close g.J.Made.schema g.J.Made.sizes g.J.Made.sessions g.J.Made.lines p.lent.items p.core c.self.invariant c.args.session c.requires.known c.close_opened.new.self x.schema x.sizes x.sessions x.claims (ground_of p.core.schema p.core.sizes) c.args.self.now c.self.view_is c.requires.free c.close_opened.result x.closes x.err

pub returns-clause-events : goal.returns-clause-events
returns-clause-events g c =
    let p = c.self.inside in
    let x = c.close_opened.ensures in
    close_events g.J.Made.schema g.J.Made.sizes g.J.Made.sessions g.J.Made.lines p.lent.items p.core c.self.invariant c.args.session c.requires.known c.close_opened.new.self x.schema x.sizes x.sessions x.claims (ground_of p.core.schema p.core.sizes) c.args.self.now c.self.view_is c.close_opened.result x.closes

pub returns-clause-closes : goal.returns-clause-closes
returns-clause-closes g c =
    let p = c.self.inside in
    let pool = c.self.invariant.1 in
    seen_from (λ origin before after. IfOk c.close_opened.result (λ closed. IsClosing origin before (Session c.args.session) closed after)) (ground_of p.core.schema p.core.sizes) (ground_of g.J.Made.schema g.J.Made.sizes) p.core.log c.close_opened.new.self.log _ _
    (λ i. ground_of (pool.schema_is i) (pool.sizes_are i)) (entries_are p.lent.items p.core.log c.args.self.now c.self.view_is) (entries_from p.lent.items 0 c.close_opened.new.self.log) c.close_opened.ensures.closes
