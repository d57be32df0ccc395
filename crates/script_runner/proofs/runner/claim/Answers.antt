use Rattle.std.proofs.Common.{subst}
use Rattle.cs_model.specs.declared.work.Actor.TheVariants.{Mover}
use Rattle.group_log.specs.Followed.{ground_of}
use Rattle.statement_core.specs.Movers.{GivesTurn}
use Rattle.statement_core.specs.Seats.{seat}
use Rattle.script_runner.proofs.Claims.{ready_lent}
use Rattle.script_runner.proofs.Events.{begun_turn}
use Rattle.script_runner.proofs.runner.claim.Goals as goal

pub returns-in-Lent-clause-begins : goal.returns-in-Lent-clause-begins
returns-in-Lent-clause-begins c =
    let core = c.args.core.now in
    begun_turn (ground_of core.schema core.sizes) core.log c.claim.new.self.log c.args.mover _ c.in_ok-claim.ensures.begins

pub returns-in-Lent-clause-ready : goal.returns-in-Lent-clause-ready
returns-in-Lent-clause-ready c =
    ready_lent c.args.mover c.args.core.now.claims c.claim.new.self.claims (seat c.args.lent.now) (seat c.set.new.self) c.in-Lent.claim c.requires.ready
    (subst (GivesTurn (Mover c.args.mover) c.args.core.now.claims c.claim.new.self.claims) c.in-Lent.is c.in_ok-claim.ensures.turned) c.set.ensures.after

pub returns-in_default-clause-begins : goal.returns-in_default-clause-begins
returns-in_default-clause-begins c =
    let core = c.args.core.now in
    begun_turn (ground_of core.schema core.sizes) core.log c.claim.new.self.log c.args.mover _ c.in_ok-claim.ensures.begins
