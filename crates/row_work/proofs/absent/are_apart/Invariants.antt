use Rattle.std.proofs.Common.{◌≡◌, ◌<◌, ℕ, []}
use Rattle.row_work.specs.Reads.{rowed_at}
use Rattle.row_work.specs.Stores.{is_read_within, positions_of}
use Rattle.row_work.proofs.absent.are_apart.Given as goal

abbrev pub invariant-loop-group : goal.invariant-loop-group
invariant-loop-group l = (group : ℕ) → group < l.group → positions_of (is_read_within l.pinned l.bounds) (rowed_at l.pinned.view group) ≡ []
