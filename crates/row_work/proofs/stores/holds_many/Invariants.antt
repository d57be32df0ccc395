use Rattle.std.proofs.Common.{◌-◌, ◌≤◌, length}
use Rattle.row_work.proofs.stores.holds_many.Given as goal

abbrev pub invariant-loop-place : goal.invariant-loop-place
invariant-loop-place l = l.among ≤ l.place

abbrev pub decreases-loop-place : goal.decreases-loop-place
decreases-loop-place l = length l.store - l.place
