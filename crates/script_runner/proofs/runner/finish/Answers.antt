use Rattle.std.proofs.Common.{[], ◌∷◌, ◌++◌, sym, subst, ap, ◌∙◌}
use Rattle.std.specs.Prelude.{IfSome}
use Rattle.cs_model.specs.declared.entry.Entry.TheVariants.{Finish}
use Rattle.cs_model.specs.State.{begin_of}
use Rattle.group_log.specs.Counted.{AreCountsAt}
use Rattle.group_log.specs.Followed.{ground_of}
use Rattle.statement_core.specs.Cores.{IsDone}
use Rattle.statement_core.specs.Counted.{outcome_counts}
use Rattle.statement_core.specs.Seats.{seat}
use Rattle.script_runner.proofs.Giving.{finishing, left_by}
use Rattle.script_runner.proofs.Waiting.{waits_finished, waits_there}
use Rattle.script_runner.proofs.runner.finish.Goals as goal

pub give-outcome-requires-clause-awaits : goal.give-outcome-requires-clause-awaits
give-outcome-requires-clause-awaits g c κs within =
    let core = c.args.core.now in
    waits_there core.sizes (begin_of core.schema) core.log (seat c.args.waiting.now) c.args.session c.in-Some.started c.requires.waits c.requires.begun (sym c.in-Some.ensures.was)

pub finish-requires-clause-outcome : goal.finish-requires-clause-outcome
finish-requires-clause-outcome g c =
    let core = c.args.core.now in
    let now = c.give-outcome.new.core in
    let outcome = c.give-outcome.result in
    subst (λ s. IsDone (begin_of s) now.sizes now.log c.args.session outcome) (sym c.give-outcome.ensures.schema)
    (subst (λ z. IsDone (begin_of core.schema) z now.log c.args.session outcome) (sym c.give-outcome.ensures.sizes) c.give-outcome.ensures.done)

pub finish-requires-clause-counts : goal.finish-requires-clause-counts
finish-requires-clause-counts g c =
    let core = c.args.core.now in
    let now = c.give-outcome.new.core in
    let outcome = c.give-outcome.result in
    subst (λ s. IfSome (outcome_counts outcome) (AreCountsAt (ground_of s now.sizes) now.log c.args.session)) (sym c.give-outcome.ensures.schema)
    (subst (λ z. IfSome (outcome_counts outcome) (AreCountsAt (ground_of core.schema z) now.log c.args.session)) (sym c.give-outcome.ensures.sizes) c.give-outcome.ensures.counts)

pub finish-requires-clause-left : goal.finish-requires-clause-left
finish-requires-clause-left g c =
    let core = c.args.core.now in
    let now = c.give-outcome.new.core in
    left_by (ground_of core.schema core.sizes) core.log c.args.session (ground_of now.schema now.sizes) now.log c.give-outcome.result
    (λ i. ground_of (c.give-outcome.ensures.schema i) (c.give-outcome.ensures.sizes i)) c.give-outcome.ensures.gives

pub returns-clause-log : goal.returns-clause-log
returns-clause-log g c =
    let core = c.args.core.now in
    finishing (ground_of core.schema core.sizes) core.log c.args.session c.give-outcome.new.core.log c.finish.new.self.log c.give-outcome.result c.give-outcome.ensures.gives c.finish.ensures.log

pub returns-clause-waits : goal.returns-clause-waits
returns-clause-waits g c =
    let core = c.args.core.now in
    let moved = c.give-outcome.ensures.gives in
    let told = c.finish.ensures.log in
    waits_finished core.sizes (begin_of core.schema) core.log moved.moves c.finish.new.self.log c.args.session told.0 (seat c.args.waiting.now) (seat c.set.new.self) c.requires.waits moved.own
    (told.1 ∙ ap (λ es. es ++ Finish c.args.session told.0 ∷ []) moved.is) c.set.ensures.after
