use Rattle.std.proofs.Common.{◌≡◌, ℕ, ◌<◌, length, get_or, take, false}
use Rattle.script_reader.specs.Scripts.{is_named}
use Rattle.script_reader.proofs.read.named.Given as goal

abbrev pub invariant-loop-step : goal.invariant-loop-step
invariant-loop-step l = record {
  places : length l.named ≡ 65;
  named : (session : ℕ) → session < 65 → get_or l.named session false ≡ is_named (take l.step-index l.steps) session;
}
