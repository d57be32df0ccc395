-- At most n of the positions below n.
use Rattle.std.proofs.Common.{ℕ, ◌≤◌, Bool, ◌&&◌, length}
use Rattle.std.specs.Prelude.{◌==◌}
use Rattle.batch_kernels.proofs.OneMore.{count-most}
use Rattle.code_tallies.specs.Tables.{positions}

pub positions-most : (chosen : ℕ → Bool) (key : ℕ → ℕ) (k n : ℕ) → length (positions chosen key k n) ≤ n
positions-most chosen key k n = count-most (λ i. chosen i && key i == k) n
