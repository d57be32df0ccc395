use Rattle.std.proofs.Common.{refl, sym}
use Rattle.cs_model.specs.declared.work.Actor.TheVariants.{Mover}
use Rattle.group_directory.specs.Installing.{held_by}
use Rattle.group_log.specs.Followed.{ground_of}
use Rattle.statement_core.specs.Seats.{seat}
use Rattle.script_runner.proofs.Claims.{free_after, mover_seat, others_after, ready_free, waits_free, waits_held, waits_mended}
use Rattle.script_runner.proofs.Events.{ended_turn, free_turn, no_turn}
use Rattle.script_runner.proofs.runner.install.Goals as goal

pub end_turn-requires-clause-holds : goal.end_turn-requires-clause-holds
end_turn-requires-clause-holds g c =
    waits_held (held_by (Mover c.args.mover) c.args.core.now.claims) (seat c.args.lent.now c.args.mover) c.in-Some.claim (c.requires.ready.movers c.args.mover (mover_seat c.args.core.now.sessions c.args.mover c.requires.served)) (sym c.in-Some.ensures.was)

pub end_turn-requires-clause-mended : goal.end_turn-requires-clause-mended
end_turn-requires-clause-mended g c =
    waits_mended (held_by (Mover c.args.mover) c.args.core.now.claims) (seat c.args.lent.now c.args.mover) c.in-Some.claim c.mend-product.result (c.requires.ready.movers c.args.mover (mover_seat c.args.core.now.sessions c.args.mover c.requires.served)) (sym c.in-Some.ensures.was)
    c.mend-product.ensures

pub returns-in_default-clause-ends : goal.returns-in_default-clause-ends
returns-in_default-clause-ends g c =
    let core = c.args.core.now in
    no_turn (ground_of core.schema core.sizes) core.log c.args.mover
    (free_turn (ground_of core.schema core.sizes) core.log core.claims (Mover c.args.mover) c.log-log.ensures.claims
    (waits_free (held_by (Mover c.args.mover) core.claims) (seat c.args.lent.now c.args.mover) (c.requires.ready.movers c.args.mover (mover_seat c.args.core.now.sessions c.args.mover c.requires.served)) (sym c.in_default.ensures.was)))

pub returns-in_default-clause-ready : goal.returns-in_default-clause-ready
returns-in_default-clause-ready g c =
    ready_free c.args.mover c.args.core.now.claims c.args.core.now.claims (seat c.args.lent.now) (seat c.set.new.self) c.requires.ready (λ other apart. refl)
    (waits_free (held_by (Mover c.args.mover) c.args.core.now.claims) (seat c.args.lent.now c.args.mover) (c.requires.ready.movers c.args.mover (mover_seat c.args.core.now.sessions c.args.mover c.requires.served)) (sym c.in_default.ensures.was)) c.set.ensures.after

pub returns-clause-ends : goal.returns-clause-ends
returns-clause-ends g c =
    let core = c.args.core.now in
    ended_turn (ground_of core.schema core.sizes) core.log c.end_turn.new.core.log c.args.mover c.mend-product.result c.end_turn.ensures.installs c.end_turn.ensures.releases

pub returns-clause-ready : goal.returns-clause-ready
returns-clause-ready g c =
    ready_free c.args.mover c.args.core.now.claims c.end_turn.new.core.claims (seat c.args.lent.now) (seat c.set.new.self) c.requires.ready
    (others_after (Mover c.args.mover) c.args.core.now.claims c.end_turn.new.core.claims c.end_turn.ensures.claims) (free_after (Mover c.args.mover) c.args.core.now.claims c.end_turn.new.core.claims c.end_turn.ensures.claims) c.set.ensures.after

pub returns-clause-free : goal.returns-clause-free
returns-clause-free g c = free_after (Mover c.args.mover) c.args.core.now.claims c.end_turn.new.core.claims c.end_turn.ensures.claims

pub returns-clause-others : goal.returns-clause-others
returns-clause-others g c = others_after (Mover c.args.mover) c.args.core.now.claims c.end_turn.new.core.claims c.end_turn.ensures.claims
