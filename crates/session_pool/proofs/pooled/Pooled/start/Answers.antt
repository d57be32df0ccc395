use Rattle.std.proofs.Common.{List, ℕ, ◌≡◌, slice_get, Some, sym, ap, subst, ◌∙◌}
use Rattle.cs_model.specs.Actors.{entries_of, is_begun, has_ended}
use Rattle.cs_model.specs.Text.{statements_of}
use Rattle.script_turns.specs.Turns.{texts_of, IsBound}
use Rattle.session_pool.proofs.Events.{entries_are, entries_from}
use Rattle.session_pool.proofs.Pools.{start_awaits, keeps_start, start_events}
use Rattle.session_pool.proofs.pooled.Pooled.start.Goals as goal

pub start-requires-clause-rests : goal.start-requires-clause-rests
start-requires-clause-rests g c =
    let p = c.self.inside in
    ap (λ log. is_begun (entries_of c.args.session log)) (sym (entries_are p.lent.items p.core.log c.args.self.now c.self.view_is)) ∙ c.requires.rests

pub start-requires-clause-going : goal.start-requires-clause-going
start-requires-clause-going g c =
    let p = c.self.inside in
    ap (λ log. has_ended (entries_of c.args.session log)) (sym (entries_are p.lent.items p.core.log c.args.self.now c.self.view_is)) ∙ c.requires.going

pub invariant_of-self : goal.invariant_of-self
invariant_of-self g c =
    let p = c.self.inside in
    let x = c.start.ensures in
    keeps_start g.J.Made.schema g.J.Made.sizes g.J.Made.sessions g.J.Made.lines p.lent.items p.core c.self.invariant c.start.new.self c.args.session c.args.bound c.start.result c.requires.known c.args.self.now c.self.view_is c.requires.free
    (subst (λ log. (text : List ℕ) × (slice_get (texts_of c.args.session g.J.Made.lines) (statements_of c.args.session log) ≡ Some text) × IsBound g.J.Made.schema text c.args.bound)
    (entries_are p.lent.items p.core.log c.args.self.now c.self.view_is) c.requires.meant)
    x.log x.err x.schema x.sizes x.sessions x.claims

pub returns-clause-events : goal.returns-clause-events
returns-clause-events g c =
    let p = c.self.inside in
    start_events g.J.Made.schema g.J.Made.sizes g.J.Made.sessions g.J.Made.lines p.lent.items p.core c.self.invariant c.start.new.self c.args.session c.args.bound c.start.result c.args.self.now c.self.view_is c.start.ensures.log

pub returns-clause-awaits : goal.returns-clause-awaits
returns-clause-awaits g c =
    let p = c.self.inside in
    let x = c.start.ensures in
    let pool = c.self.invariant.1 in
    start_awaits g.J.Made.schema g.J.Made.sizes c.start.new.self _ c.args.session (x.schema ∙ pool.schema_is) (x.sizes ∙ pool.sizes_are) (sym (entries_from p.lent.items 0 c.start.new.self.log)) c.start.result x.terms x.started x.counts x.ledger
