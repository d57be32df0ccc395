use Rattle.std.proofs.Common.{ℕ, List, length, subst, sym}
use Rattle.group_log.specs.Followed.{ground_of}
use Rattle.statement_core.specs.Reorganizes.{MayBegin}
use Rattle.session_pool.specs.declared.event.Note.{Note}
use Rattle.session_pool.specs.Pools.{IsNoted}
use Rattle.session_pool.specs.Sections.{BegunBy}
use Rattle.session_pool.proofs.Events.{entries_are, entries_from}
use Rattle.session_pool.proofs.Pools.{holds_none, seen_as, seen_from}
use Rattle.session_pool.proofs.Turning.{keeps_turn, turn_events}
use Rattle.session_pool.proofs.pooled.Pooled.claim.Goals as goal

pub claim-requires-clause-may : goal.claim-requires-clause-may
claim-requires-clause-may g c =
    let p = c.self.inside in
    let pool = c.self.invariant.1 in
    seen_as (λ origin log. MayBegin origin log c.args.actor) (ground_of g.J.Made.schema g.J.Made.sizes) (ground_of p.core.schema p.core.sizes) _ p.core.log (λ i. ground_of (sym pool.schema_is i) (sym pool.sizes_are i)) (sym (entries_are p.lent.items p.core.log c.args.self.now c.self.view_is)) c.requires.may

pub claim-requires-clause-free : goal.claim-requires-clause-free
claim-requires-clause-free g c =
    let p = c.self.inside in
    holds_none g.J.Made.schema g.J.Made.sizes g.J.Made.sessions g.J.Made.lines p.lent.items p.core c.self.invariant c.args.actor c.requires.known c.args.self.now c.self.view_is c.requires.free

pub invariant_of-self-2 : goal.invariant_of-self-2
invariant_of-self-2 g c =
    let p = c.self.inside in
    let x = c.in_ok-turned.ensures in
    let begins = x.begins in
    let new = c.note_lent.new.notes in
    let turned = c.in_ok-turned.turned in
    let noted : IsNoted turned (length p.core.log) p.lent.items new.items = subst (λ (z : ℕ × List Note). IsNoted turned z.0 z.1 new.items) (λ i. (length (c.log-place.ensures.log i), c.reserve.ensures.items i)) c.note_lent.ensures in
    keeps_turn g.J.Made.schema g.J.Made.sizes g.J.Made.sessions g.J.Made.lines p.lent.items p.core c.self.invariant c.args.actor c.requires.known c.claim.new.self x.schema x.sizes x.sessions
    (ground_of p.core.schema p.core.sizes) begins.0 begins.1 c.args.self.now c.self.view_is c.requires.free turned begins.2 x.turned new.items noted

pub returns-clause-events : goal.returns-clause-events
returns-clause-events g c =
    let p = c.self.inside in
    let x = c.in_ok-turned.ensures in
    let begins = x.begins in
    let new = c.note_lent.new.notes in
    let turned = c.in_ok-turned.turned in
    let noted : IsNoted turned (length p.core.log) p.lent.items new.items = subst (λ (z : ℕ × List Note). IsNoted turned z.0 z.1 new.items) (λ i. (length (c.log-place.ensures.log i), c.reserve.ensures.items i)) c.note_lent.ensures in
    turn_events g.J.Made.schema g.J.Made.sizes g.J.Made.sessions g.J.Made.lines p.lent.items p.core c.self.invariant c.args.actor c.requires.known c.claim.new.self x.schema x.sizes x.sessions
    (ground_of p.core.schema p.core.sizes) begins.0 begins.1 c.args.self.now c.self.view_is c.requires.free turned begins.2 x.turned new.items noted

pub returns-clause-begins : goal.returns-clause-begins
returns-clause-begins g c =
    let p = c.self.inside in
    let pool = c.self.invariant.1 in
    let new = c.note_lent.new.notes in
    let turned = c.in_ok-turned.turned in
    seen_from (λ origin before after. BegunBy origin c.args.actor turned before after) (ground_of p.core.schema p.core.sizes) (ground_of g.J.Made.schema g.J.Made.sizes) p.core.log c.claim.new.self.log _ _
    (λ i. ground_of (pool.schema_is i) (pool.sizes_are i)) (entries_are p.lent.items p.core.log c.args.self.now c.self.view_is) (entries_from new.items 0 c.claim.new.self.log) c.in_ok-turned.ensures.begins
