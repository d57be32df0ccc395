use Rattle.std.proofs.Common.{◌≡◌}
use Rattle.std.specs.Prelude.{None}
use Rattle.history_gate.specs.Histories.{list_of}
use Rattle.session_pool.specs.Events.{held_in}
use Rattle.session_pool.proofs.Passes.{KeepsOthers}
use Rattle.session_pool.proofs.mover.last_turns.Given as goal

abbrev pub invariant-loop : goal.invariant-loop
invariant-loop g l = (l.pass.gate ≡ l.fn.pass.gate) × (l.pass.reserve ≡ l.fn.pass.reserve) × KeepsOthers 65 l.fn.pass.own l.pass.own × (held_in (list_of 65 l.pass.own) ≡ None)
