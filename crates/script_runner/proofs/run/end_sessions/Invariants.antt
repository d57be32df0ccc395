use Rattle.std.proofs.Common.{◌≡◌, take, drop}
use Rattle.script_runner.specs.Running.{Ending}
use Rattle.script_runner.proofs.run.end_sessions.Given as goal

-- the runner keeps its table, its sessions and its claims, and the Ends come
pub record EndingIn {A B C D : Type 0} (x y : A) (u v : C) (z w : B) (p q : D) (all : Type 0) : Type 0 where
  pub schema : x ≡ y
  pub sizes : u ≡ v
  pub sessions : z ≡ w
  pub claims : p ≡ q
  pub ending : all

abbrev pub invariant-loop-session : goal.invariant-loop-session
invariant-loop-session l = EndingIn l.runner.schema l.fn.runner.schema l.runner.sizes l.fn.runner.sizes l.runner.sessions l.fn.runner.sessions l.runner.claims l.fn.runner.claims
    (Ending l.fn.runner.log l.runner.log (take l.session-index l.sessions) (drop l.session-index l.sessions))
