use Rattle.std.proofs.Common.{◌≡◌, [], ◌∷◌, length, take}
use Rattle.history_gate.specs.Histories.{own_numbers, list_of}
use Rattle.script_turns.specs.Turns.{texts_of}
use Rattle.std.specs.Prelude.{None}
use Rattle.session_pool.specs.Events.{entries_in, held_in}
use Rattle.session_pool.proofs.Statements.{HasDone}
use Rattle.session_pool.proofs.session.session.Given as goal

abbrev pub invariant-loop-step : goal.invariant-loop-step
invariant-loop-step g l =
    (l.pass.gate ≡ l.fn.pass.gate) × (l.pass.reserve ≡ l.fn.pass.reserve) × (own_numbers l.pass.own ≡ l.fn.session ∷ [])
    × HasDone l.fn.session (length (texts_of l.fn.session (take l.step-index l.fn.script.lines))) (entries_in (list_of l.fn.session l.pass.own)) × (held_in (list_of l.fn.session l.pass.own) ≡ None)
