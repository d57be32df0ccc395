use Rattle.std.proofs.Common.{◌≡◌, ℕ, All, false, take}
use Rattle.cs_model.specs.Obstacles.{has_row}
use Rattle.row_work.specs.Reads.{shown_by}
use Rattle.row_work.proofs.absent.none_shown.Given as goal

abbrev pub invariant-loop-key : goal.invariant-loop-key
invariant-loop-key l = (width : ℕ) → All (λ key. has_row (shown_by width l.pinned) key ≡ false) (take l.key-index l.keys)
