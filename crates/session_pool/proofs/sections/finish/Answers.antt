use Rattle.std.proofs.Common.{ap, ◌∙◌}
use Rattle.cs_model.specs.State.{begin_of}
use Rattle.group_log.specs.Followed.{ground_of}
use Rattle.statement_core.specs.Counted.{outcome_counts}
use Rattle.session_pool.specs.Events.{held_in}
use Rattle.session_pool.proofs.Own.{own_events, done_on, counts_on, left_on}
use Rattle.session_pool.proofs.sections.finish.Goals as goal

pub finish-requires-clause-outcome : goal.finish-requires-clause-outcome
finish-requires-clause-outcome g c =
    let held = c.enter-held.ensures in
    done_on c.args.session c.args.pass.own c.args.pass.seen c.enter-held.result.found c.value.result.now (c.value.ensures.value ∙ held.value) held.seen c.requires.told held.own c.requires.number
    (begin_of g.J.Made.schema) g.J.Made.sizes c.args.outcome c.requires.outcome

pub finish-requires-clause-counts : goal.finish-requires-clause-counts
finish-requires-clause-counts g c =
    let held = c.enter-held.ensures in
    counts_on c.args.session c.args.pass.own c.args.pass.seen c.enter-held.result.found c.value.result.now (c.value.ensures.value ∙ held.value) held.seen c.requires.told held.own c.requires.number
    (ground_of g.J.Made.schema g.J.Made.sizes) (outcome_counts c.args.outcome) c.requires.counts

pub finish-requires-clause-free : goal.finish-requires-clause-free
finish-requires-clause-free g c =
    let held = c.enter-held.ensures in
    ap held_in (own_events c.args.session c.args.pass.own c.enter-held.result.found c.value.result.now (c.value.ensures.value ∙ held.value) held.own c.requires.number) ∙ c.requires.free

pub finish-requires-clause-left : goal.finish-requires-clause-left
finish-requires-clause-left g c =
    let held = c.enter-held.ensures in
    left_on c.args.session c.args.pass.own c.args.pass.seen c.enter-held.result.found c.value.result.now (c.value.ensures.value ∙ held.value) held.seen c.requires.told held.own c.requires.number
    (ground_of g.J.Made.schema g.J.Made.sizes) c.args.outcome c.requires.left
