use Rattle.std.proofs.Common.{List, None, refl, sym, subst}
use Rattle.std.specs.Prelude.{IfSome}
use Rattle.cs_types.specs.declared.Schema.{Schema}
use Rattle.cs_model.specs.declared.entry.Entry.{Entry}
use Rattle.cs_model.specs.declared.entry.Entry.TheVariants.{Finish}
use Rattle.cs_model.specs.declared.work.Actor.TheVariants.{Session}
use Rattle.cs_model.specs.State.{begin_of}
use Rattle.group_book.specs.Commits.{Sizes}
use Rattle.group_log.specs.Counted.{AreCountsAt}
use Rattle.group_log.specs.Followed.{ground_of}
use Rattle.statement_core.specs.Cores.{IsDone}
use Rattle.statement_core.specs.Counted.{outcome_counts}
use Rattle.statement_core.specs.Reorganizes.{LeavesBy}
use Rattle.session_pool.proofs.Events.{event_of, entries_are}
use Rattle.session_pool.proofs.Pools.{keeps_finish, grown, holds_none, seen_as}
use Rattle.session_pool.proofs.pooled.Pooled.finish.Goals as goal

pub finish-requires-clause-outcome : goal.finish-requires-clause-outcome
finish-requires-clause-outcome g c =
    let p = c.self.inside in
    let pool = c.self.invariant.1 in
    subst (λ (z : Schema × Sizes × List Entry). IsDone (begin_of z.0) z.1 z.2 c.args.session c.args.outcome)
    (λ i. (sym pool.schema_is i, sym pool.sizes_are i, entries_are p.lent.items p.core.log c.args.self.now c.self.view_is i)) c.requires.outcome

pub finish-requires-clause-counts : goal.finish-requires-clause-counts
finish-requires-clause-counts g c =
    let p = c.self.inside in
    let pool = c.self.invariant.1 in
    subst (λ (z : Schema × Sizes × List Entry). IfSome (outcome_counts c.args.outcome) (AreCountsAt (ground_of z.0 z.1) z.2 c.args.session))
    (λ i. (sym pool.schema_is i, sym pool.sizes_are i, entries_are p.lent.items p.core.log c.args.self.now c.self.view_is i)) c.requires.counts

pub finish-requires-clause-left : goal.finish-requires-clause-left
finish-requires-clause-left g c =
    let p = c.self.inside in
    let pool = c.self.invariant.1 in
    seen_as (λ origin log. LeavesBy origin log c.args.session c.args.outcome) (ground_of g.J.Made.schema g.J.Made.sizes) (ground_of p.core.schema p.core.sizes) _ p.core.log (λ i. ground_of (sym pool.schema_is i) (sym pool.sizes_are i)) (sym (entries_are p.lent.items p.core.log c.args.self.now c.self.view_is)) c.requires.left

pub finish-requires-clause-free : goal.finish-requires-clause-free
finish-requires-clause-free g c =
    let p = c.self.inside in
    holds_none g.J.Made.schema g.J.Made.sizes g.J.Made.sessions g.J.Made.lines p.lent.items p.core c.self.invariant (Session c.args.session) c.requires.known c.args.self.now c.self.view_is c.requires.free

pub invariant_of-self : goal.invariant_of-self
invariant_of-self g c =
    let p = c.self.inside in
    let x = c.finish.ensures in
    let log = x.log in
    keeps_finish g.J.Made.schema g.J.Made.sizes g.J.Made.sessions g.J.Made.lines p.lent.items p.core c.self.invariant c.finish.new.self c.args.session c.requires.known c.args.self.now c.self.view_is c.requires.free x.claims log.0 (record { log = log.1; schema = x.schema; sizes = x.sizes; sessions = x.sessions })

pub returns : goal.returns
returns g c =
    let p = c.self.inside in
    let log = c.finish.ensures.log in record {
      events = (
        event_of (Finish c.args.session log.0) None,
        log.0,
        grown g.J.Made.schema g.J.Made.sizes g.J.Made.sessions g.J.Made.lines p.lent.items p.core c.self.invariant c.finish.new.self.log c.args.self.now (Finish c.args.session log.0) c.self.view_is log.1,
        refl,
        refl,
      );
    }
