use Rattle.std.proofs.Common.{ap, ◌∙◌, subst, Ok, IfOk}
use Rattle.cs_model.specs.declared.work.Actor.TheVariants.{Session}
use Rattle.group_log.specs.Followed.{ground_of}
use Rattle.statement_core.specs.Reorganizes.{IsLedgerAt}
use Rattle.session_pool.specs.Events.{entries_in}
use Rattle.session_pool.specs.Sections.{BegunBy, GrowsBy}
use Rattle.session_pool.proofs.Turning.{attempt_idle}
use Rattle.session_pool.proofs.pooled.Pooled.attempt.Goals as goal

pub returns-in-Ok-clause-log : goal.returns-in-Ok-clause-log
returns-in-Ok-clause-log g c =
    let idle = c.in-Ok-Idle.is ∙ ap Ok c.in-Ok-Idle.field-0-is in
    let grows = subst (λ r. IfOk r (λ turned. GrowsBy c.args.session turned c.args.self.now c.claim.new.self)) idle c.claim.ensures.events in
    let begins = subst (λ r. IfOk r (λ turned. BegunBy (ground_of g.J.Made.schema g.J.Made.sizes) (Session c.args.session) turned (entries_in c.args.self.now) (entries_in c.claim.new.self))) idle c.claim.ensures.begins in
    let at = subst (λ r. IfOk r (IsLedgerAt (ground_of g.J.Made.schema g.J.Made.sizes) (entries_in c.claim.new.self))) c.in-Ok.is c.ledger.ensures in
    attempt_idle (ground_of g.J.Made.schema g.J.Made.sizes) (entries_in c.args.self.now) (entries_in c.claim.new.self) c.args.session c.in-Ok.ledger (ap entries_in grows) begins at
