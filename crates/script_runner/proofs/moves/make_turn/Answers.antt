use Rattle.std.proofs.Common.{subst, ◌∙◌}
use Rattle.cs_model.specs.declared.work.Actor.TheVariants.{Session}
use Rattle.group_log.specs.Followed.{ground_of}
use Rattle.statement_core.specs.Movers.{GivesTurn}
use Rattle.statement_core.specs.Turns.{TurnsTo}
use Rattle.statement_core.proofs.Holding.{lent_over}
use Rattle.script_runner.proofs.Moving.{Goes, idle_turn, may_install, whole_turn}
use Rattle.script_runner.proofs.moves.make_turn.Goals as goal

pub install-requires-clause-may : goal.install-requires-clause-may
install-requires-clause-may g c =
    let core = c.args.core.now in
    let claimed = c.claim.new.self in
    may_install (ground_of core.schema core.sizes) (ground_of claimed.schema claimed.sizes) core.log claimed.log claimed.log c.args.session
    (λ i. ground_of (c.in_ok-claim.ensures.schema i) (c.in_ok-claim.ensures.sizes i)) _ c.requires.may c.in_ok-claim.ensures.begins

pub release-requires-clause-may : goal.release-requires-clause-may
release-requires-clause-may g c =
    let core = c.args.core.now in
    let claimed = c.claim.new.self in
    may_install (ground_of core.schema core.sizes) (ground_of claimed.schema claimed.sizes) core.log claimed.log claimed.log c.args.session
    (λ i. ground_of (c.in_ok-claim.ensures.schema i) (c.in_ok-claim.ensures.sizes i)) _ c.requires.may c.in_ok-claim.ensures.begins

pub returns-in-Ok-clause-turned : goal.returns-in-Ok-clause-turned
returns-in-Ok-clause-turned g c =
    let core = c.args.core.now in
    let claimed = c.claim.new.self in
    let origin = ground_of core.schema core.sizes in
    whole_turn origin (ground_of claimed.schema claimed.sizes) core.log claimed.log c.install.new.self.log c.args.session
    (λ i. ground_of (c.in_ok-claim.ensures.schema i) (c.in_ok-claim.ensures.sizes i)) c.in-Lent.claim c.args.course.now c.turned.new.self
    (subst (λ given. Goes core.log claimed.log (TurnsTo origin core.log (Session c.args.session) given)) c.in-Lent.is c.in_ok-claim.ensures.begins) c.install.ensures.ends c.turned.ensures

pub returns-in-Ok-clause-claims : goal.returns-in-Ok-clause-claims
returns-in-Ok-clause-claims g c =
    let core = c.args.core.now in
    let claimed = c.claim.new.self in
    c.install.ensures.claims
    ∙ lent_over (Session c.args.session) core.claims claimed.claims c.in-Lent.claim
    (subst (GivesTurn (Session c.args.session) core.claims claimed.claims) c.in-Lent.is c.in_ok-claim.ensures.turned) c.requires.free

pub returns-in-Lent-clause-claims : goal.returns-in-Lent-clause-claims
returns-in-Lent-clause-claims g c =
    let core = c.args.core.now in
    let claimed = c.claim.new.self in
    c.release.ensures.claims
    ∙ lent_over (Session c.args.session) core.claims claimed.claims c.in-Lent.claim
    (subst (GivesTurn (Session c.args.session) core.claims claimed.claims) c.in-Lent.is c.in_ok-claim.ensures.turned) c.requires.free

pub returns-in-Idle-clause-turned : goal.returns-in-Idle-clause-turned
returns-in-Idle-clause-turned g c =
    let core = c.args.core.now in
    let origin = ground_of core.schema core.sizes in
    idle_turn origin core.log c.claim.new.self.log c.args.session c.args.course.now
    (subst (λ given. Goes core.log c.claim.new.self.log (TurnsTo origin core.log (Session c.args.session) given)) c.in-Idle.is c.in_ok-claim.ensures.begins)
