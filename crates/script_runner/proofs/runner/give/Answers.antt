use Rattle.std.proofs.Common.{refl, sym, ◌∙◌}
use Rattle.cs_model.specs.State.{begin_of}
use Rattle.group_log.specs.Followed.{ground_of}
use Rattle.statement_core.specs.Terms.{sizes_of}
use Rattle.statement_core.proofs.Counting.{start_counts}
use Rattle.script_runner.specs.Moves.{StopsShort, LeavesBoth}
use Rattle.script_runner.proofs.Giving.{done_alone, done_left, done_short, given_alone}
use Rattle.script_runner.proofs.runner.give.Goals as goal

pub returns-in_default-clause-gives : goal.returns-in_default-clause-gives
returns-in_default-clause-gives g c =
    let core = c.args.core.now in
    given_alone (ground_of core.schema core.sizes) core.log c.args.session c.work-outcome.result c.work-outcome.ensures.worked

pub returns-in_default-clause-done : goal.returns-in_default-clause-done
returns-in_default-clause-done g c =
    let core = c.args.core.now in
    done_alone core.sizes (begin_of core.schema) core.log c.args.session c.args.started c.requires.awaits c.work-outcome.result c.work-outcome.ensures.gives (λ nothing. sym c.reorganizes.ensures ∙ c.in_default.is)

pub returns-in_default-clause-counts : goal.returns-in_default-clause-counts
returns-in_default-clause-counts g c =
    let core = c.args.core.now in
    let started = c.args.started in
    let w = c.requires.awaits in
    start_counts (ground_of core.schema core.sizes) core.log c.args.session started (sizes_of started.terms.value) w.begun w.hands w.counts c.work-outcome.result
    (c.work-outcome.ensures.gives w.begun w.hands w.works) c.work-outcome.ensures.counted

pub returns-in_default-outcome : goal.returns-in_default-outcome
returns-in_default-outcome g c =
    let core = c.args.core.now in
    let started = c.args.started in
    let w = c.requires.awaits in
    let outcome = c.work-outcome.result in
    record {
      gives = given_alone (ground_of core.schema core.sizes) core.log c.args.session outcome c.work-outcome.ensures.worked;
      done = done_alone core.sizes (begin_of core.schema) core.log c.args.session started w outcome c.work-outcome.ensures.gives (λ nothing. absurd (c.in_default-outcome.not-Nothing nothing));
      counts = start_counts (ground_of core.schema core.sizes) core.log c.args.session started (sizes_of started.terms.value) w.begun w.hands w.counts outcome
          (c.work-outcome.ensures.gives w.begun w.hands w.works) c.work-outcome.ensures.counted;
      schema = refl;
      sizes = refl;
      sessions = refl;
      claims = refl;
    }

pub returns-in-Ok-clause-done : goal.returns-in-Ok-clause-done
returns-in-Ok-clause-done g c =
    let core = c.args.core.now in
    let origin = ground_of core.schema core.sizes in
    done_left core.sizes (begin_of core.schema) core.log c.args.session c.args.started c.requires.awaits c.make_moves.new.core.log (LeavesBoth origin core.log c.args.session c.in-Ok.groups) c.in-Ok.ensures.left
    c.in-Some.all c.in-Ok.groups (sym c.reorganizes.ensures ∙ c.in-Some.is)

pub returns-clause-done : goal.returns-clause-done
returns-clause-done g c =
    let core = c.args.core.now in
    let origin = ground_of core.schema core.sizes in
    done_short core.sizes (begin_of core.schema) core.log c.args.session c.args.started c.requires.awaits c.make_moves.new.core.log (StopsShort origin core.log c.args.session) c.in-Err.ensures.short
