use Rattle.std.proofs.Common.{◌≡◌, [], ◌∷◌}
use Rattle.history_gate.specs.Histories.{own_numbers}
use Rattle.desk_tests.proofs.history_gate_tests.sections.Given as goal

abbrev pub invariant-loop-place : goal.invariant-loop-place
invariant-loop-place g l = (l.pass.gate ≡ l.initial.pass.gate) × (own_numbers l.pass.own ≡ l.fn.number ∷ [])
