use Rattle.std.proofs.Common.{◌≡◌, ◌-◌}
use Rattle.std.specs.Prelude.{filter}
use Rattle.script_reader.specs.Scripts.{is_named, numbers}
use Rattle.script_reader.proofs.read.sessions.Given as goal

-- the sessions before this one
abbrev pub invariant-loop-session : goal.invariant-loop-session
invariant-loop-session l = record {
  before : l.sessions ≡ filter (is_named l.steps) (numbers 1 (l.session - 1));
}
