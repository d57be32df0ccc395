use Rattle.std.proofs.Common.{refl, subst, ◌∙◌}
use Rattle.cs_model.specs.Ready.{IsReady}
use Rattle.cs_model.specs.State.{begin_of}
use Rattle.log_laws.specs.Started.{IsStarted}
use Rattle.script_turns.specs.Turns.{IsBound}
use Rattle.group_log.specs.Followed.{ground_of}
use Rattle.statement_core.specs.Counted.{HasStartCounts}
use Rattle.statement_core.specs.Reorganizes.{reorganizes, HasLedger}
use Rattle.statement_core.specs.Seats.{seat}
use Rattle.script_turns.proofs.Entries.{begun_is}
use Rattle.script_runner.proofs.Waiting.{waits_begun, waits_same}
use Rattle.script_runner.proofs.runner.begin.Goals as goal

pub start-requires-clause-ready : goal.start-requires-clause-ready
start-requires-clause-ready c = subst (λ s. IsReady s c.bound_of-bound.result) c.schema.ensures c.bound_of-bound.ensures.ready

pub returns-clause-log : goal.returns-clause-log
returns-clause-log c =
    begun_is (begin_of c.args.core.now.schema) c.args.core.now.log c.start.new.self.log c.args.session c.args.text.now c.bound_of-bound.result c.in_ok-started.started.short c.in_ok-started.ensures.log
    (subst (λ s. IsBound s c.args.text.now c.bound_of-bound.result) c.schema.ensures c.bound_of-bound.ensures.bound)

pub returns-clause-waits : goal.returns-clause-waits
returns-clause-waits c =
    let x = c.in_ok-started.ensures in
    let core = c.args.core.now in
    let after = c.start.new.self in
    let counts =
    subst (λ s. HasStartCounts (ground_of s core.sizes) after.log c.args.session c.in_ok-started.started) x.schema
    (subst (λ z. HasStartCounts (ground_of after.schema z) after.log c.args.session c.in_ok-started.started) x.sizes x.counts) in
    let started = c.in_ok-started.started in
    let ledger =
    subst (λ s. HasLedger (ground_of s core.sizes) after.log c.args.session (reorganizes started.bound.value) started.ledger) x.schema
    (subst (λ z. HasLedger (ground_of after.schema z) after.log c.args.session (reorganizes started.bound.value) started.ledger) x.sizes x.ledger) in
    waits_begun c.args.core.now.sizes c.args.core.now.schema c.args.core.now.log c.start.new.self.log c.args.session c.bound_of-bound.result (seat c.args.waiting.now) (seat c.set.new.self) c.in_ok-started.started
    c.requires.waits x.log (record { terms = x.terms.0; sized = x.terms.1 ∙ x.sizes; begun = x.started.0; hands = x.started.1; works = x.started.2; is = subst (λ s. IsStarted (begin_of s) c.start.new.self.log c.args.session x.started.0) x.schema x.started.3; counts = counts; ledger = ledger })
    c.set.ensures.after

pub returns-in_err-started-clause-waits : goal.returns-in_err-started-clause-waits
returns-in_err-started-clause-waits c =
    waits_same c.args.core.now.sizes (begin_of c.args.core.now.schema) c.args.core.now.log c.start.new.self.log (seat c.args.waiting.now) (seat c.args.waiting.now) c.requires.waits c.in_err-started.ensures.err refl
