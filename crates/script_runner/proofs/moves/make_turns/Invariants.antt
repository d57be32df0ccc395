use Rattle.std.proofs.Common.{◌≡◌}
use Rattle.group_log.specs.Followed.{ground_of}
use Rattle.statement_core.specs.Courses.{IsTurning}
use Rattle.script_runner.specs.Moves.{Moved}
use Rattle.script_runner.proofs.moves.make_turns.Given as goal

-- the core keeps its table, its sessions and its claims, and the REORGANIZE makes its turns
pub record TurningIn {A B C D : Type 0} (x y : A) (u v : B) (z w : C) (p q : D) (all : Type 0) : Type 0 where
  pub schema : x ≡ y
  pub sizes : u ≡ v
  pub sessions : z ≡ w
  pub claims : p ≡ q
  pub moved : all

abbrev pub invariant-loop-alloc : goal.invariant-loop-alloc
invariant-loop-alloc g l = TurningIn l.core.schema l.fn.core.schema l.core.sizes l.fn.core.sizes l.core.sessions l.fn.core.sessions l.core.claims l.fn.core.claims
    (Moved l.session l.fn.core.log l.core.log (λ moves. IsTurning (ground_of l.fn.core.schema l.fn.core.sizes) l.session l.fn.core.log moves l.course))

abbrev pub decreases-loop-alloc : goal.decreases-loop-alloc
decreases-loop-alloc g l = l.course.turns
