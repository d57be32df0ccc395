use Rattle.std.proofs.Common.{◌≡◌, List, ◌++◌, sym, subst}
use Rattle.cs_model.specs.declared.entry.Entry.{Entry}
use Rattle.cs_model.specs.State.{begin_of}
use Rattle.group_log.specs.Followed.{ground_of}
use Rattle.script_runner.specs.Schedule.{IsPiece}
use Rattle.script_runner.proofs.Events.{turn_piece, waits_begins, waits_ends}
use Rattle.script_runner.proofs.runner.run_step.Goals as goal
use Rattle.statement_core.specs.Seats.{seat}

pub returns-in_ok-claim-in-Turn-clause-piece : goal.returns-in_ok-claim-in-Turn-clause-piece
returns-in_ok-claim-in-Turn-clause-piece g c =
    let core = c.args.core.now in
    let origin = ground_of core.schema core.sizes in
    subst (λ step. (piece : List Entry) × IsPiece origin core.log step piece × (c.install.new.core.log ≡ core.log ++ piece)) (sym c.in-Turn.is)
    (turn_piece origin (ground_of c.claim.new.core.schema c.claim.new.core.sizes) core.log c.claim.new.core.log c.install.new.core.log c.in-Turn.mover
    (λ i. ground_of (c.in_ok-claim-in-Turn.ensures.schema i) (c.in_ok-claim-in-Turn.ensures.sizes i)) c.in_ok-claim-in-Turn.ensures.begins c.install.ensures.ends)

pub returns-in_ok-claim-in-Turn-clause-waits : goal.returns-in_ok-claim-in-Turn-clause-waits
returns-in_ok-claim-in-Turn-clause-waits g c =
    let core = c.args.core.now in
    let waiting = seat c.args.waiting.now.started in
    waits_ends (ground_of c.claim.new.core.schema c.claim.new.core.sizes) core.sizes (begin_of core.schema) c.claim.new.core.log c.install.new.core.log c.in-Turn.mover waiting
    (waits_begins (ground_of core.schema core.sizes) core.sizes (begin_of core.schema) core.log c.claim.new.core.log c.in-Turn.mover waiting c.requires.waits c.in_ok-claim-in-Turn.ensures.begins)
    c.install.ensures.ends

pub returns-in_ok-claim-in-Claiming-clause-waits : goal.returns-in_ok-claim-in-Claiming-clause-waits
returns-in_ok-claim-in-Claiming-clause-waits g c =
    let core = c.args.core.now in
    waits_begins (ground_of core.schema core.sizes) core.sizes (begin_of core.schema) core.log c.claim-in-Claiming.new.core.log c.in-Claiming.mover (seat c.args.waiting.now.started) c.requires.waits
    c.in_ok-claim-in-Claiming.ensures.begins

pub returns-in-Installing-clause-waits : goal.returns-in-Installing-clause-waits
returns-in-Installing-clause-waits g c =
    let core = c.args.core.now in
    waits_ends (ground_of core.schema core.sizes) core.sizes (begin_of core.schema) core.log c.install-in-Installing.new.core.log c.in-Installing.mover (seat c.args.waiting.now.started) c.requires.waits
    c.install-in-Installing.ensures.ends
