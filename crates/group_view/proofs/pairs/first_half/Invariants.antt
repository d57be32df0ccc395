use Rattle.std.proofs.Common.{◌≤◌, length}
use Rattle.group_view.specs.Walks.{IsScanOf}
use Rattle.group_view.proofs.pairs.first_half.Given as goal

abbrev pub invariant-loop-place : goal.invariant-loop-place
invariant-loop-place l = record {
  scan : IsScanOf l.floor l.group_rows l.list l.place l.scan;
  within : l.place ≤ length l.list.groups.items;
}

abbrev pub decreases-loop-place : goal.decreases-loop-place
decreases-loop-place l = l.place
