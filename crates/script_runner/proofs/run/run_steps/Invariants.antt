use Rattle.std.proofs.Common.{◌≡◌, take, drop}
use Rattle.group_log.specs.Followed.{ground_of}
use Rattle.script_runner.specs.Running.{Running}
use Rattle.script_runner.proofs.run.run_steps.Given as goal

-- the runner keeps its table and its sessions, and the steps so far are run
pub record RunningIn {A B C : Type 0} (x y : A) (u v : C) (z w : B) (all : Type 0) : Type 0 where
  pub schema : x ≡ y
  pub sizes : u ≡ v
  pub sessions : z ≡ w
  pub running : all

abbrev pub invariant-loop-step : goal.invariant-loop-step
invariant-loop-step g l = RunningIn l.runner.schema l.fn.runner.schema l.runner.sizes l.fn.runner.sizes l.runner.sessions l.fn.runner.sessions
    (Running (ground_of l.fn.runner.schema l.fn.runner.sizes) l.runner (take l.step-index l.steps) (drop l.step-index l.steps))
