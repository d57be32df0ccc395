use Rattle.std.proofs.Common.{◌≡◌, ◌+◌, [], ◌∷◌}
use Rattle.std.specs.Prelude.{None}
use Rattle.history_gate.specs.Histories.{own_numbers, list_of}
use Rattle.session_pool.specs.Events.{held_in}
use Rattle.session_pool.proofs.mover.mover.Given as goal

abbrev pub invariant-loop : goal.invariant-loop
invariant-loop g l =
    (l.pass.gate ≡ l.fn.pass.gate) × (l.pass.reserve ≡ l.fn.pass.reserve) × (own_numbers l.pass.own ≡ (64 + l.fn.mover) ∷ []) × (held_in (list_of (64 + l.fn.mover) l.pass.own) ≡ None)
