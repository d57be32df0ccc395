-- What contracts see of a REORGANIZE's course.
use Rattle.std.specs.Prelude.{ℕ, List, Bool}

-- whether it closes the open store, how many turns are left, and the stores that are marked
pub record Course : Type 0 where
  pub all : Bool
  pub turns : ℕ
  pub marked : List ℕ
