use Rattle.std.proofs.Common.{◌≡◌}
use Rattle.row_group.proofs.columns.reserve_cells.Given as goal

abbrev pub invariant-loop-place : goal.invariant-loop-place
invariant-loop-place l = l.columns.items ≡ l.initial.columns.items
