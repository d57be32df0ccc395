use Rattle.std.proofs.Common.{sym, ◌∙◌}
use Rattle.cs_model.specs.State.{begin_of}
use Rattle.group_log.specs.Followed.{ground_of}
use Rattle.statement_core.proofs.Awaiting.{awaits_done}
use Rattle.session_pool.specs.Events.{entries_in}
use Rattle.session_pool.proofs.Outcomes.{desk_counts, desk_left, done_left, done_short, some_over}
use Rattle.session_pool.proofs.Working.{works_none}
use Rattle.session_pool.proofs.session.outcome_of.Goals as goal

pub returns-in_default-clause-works : goal.returns-in_default-clause-works
returns-in_default-clause-works g c = works_none c.args.session c.args.pass c.requires.told

pub returns-in_default-clause-counts : goal.returns-in_default-clause-counts
returns-in_default-clause-counts g c =
    desk_counts g.J.Made.schema g.J.Made.sizes c.args.session c.args.started (entries_in c.args.pass.seen) c.requires.awaits c.work-outcome.result c.work-outcome.ensures.gives c.work-outcome.ensures.counted

pub returns-in_default-outcome : goal.returns-in_default-outcome
returns-in_default-outcome g c =
    let work = c.work-outcome.ensures in
    let log = entries_in c.args.pass.seen in record {
      works = works_none c.args.session c.args.pass c.requires.told;
      free = c.requires.free;
      outcome = awaits_done g.J.Made.sizes (begin_of g.J.Made.schema) log c.args.session c.args.started c.work-outcome.result c.requires.awaits (some_over c.args.started.bound.value c.work-outcome.result c.in_default-outcome.not-Nothing) work.gives;
      counts = desk_counts g.J.Made.schema g.J.Made.sizes c.args.session c.args.started log c.requires.awaits c.work-outcome.result work.gives work.counted;
      left = desk_left (ground_of g.J.Made.schema g.J.Made.sizes) log c.args.session c.work-outcome.result work.worked;
    }

pub returns-in-Ok-clause-outcome : goal.returns-in-Ok-clause-outcome
returns-in-Ok-clause-outcome g c =
    done_left g.J.Made.schema g.J.Made.sizes c.args.session c.args.started c.args.pass c.reorganize-pass.result.0 c.requires.awaits c.reorganize-pass.ensures.works c.in-Some.all c.in-Ok.left (sym c.reorganizes.ensures ∙ c.in-Some.is)

pub returns-clause-outcome : goal.returns-clause-outcome
returns-clause-outcome g c = done_short g.J.Made.schema g.J.Made.sizes c.args.session c.args.started c.args.pass c.reorganize-pass.result.0 c.requires.awaits c.reorganize-pass.ensures.works
