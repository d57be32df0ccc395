use Rattle.std.proofs.Common.{◌≡◌, ◌-◌, ◌≤◌, false, length, take}
use Rattle.std.specs.List.{list_any}
use Rattle.batch_kernels.specs.Masks.{same_as}
use Rattle.batch_kernels.proofs.masks.has_any.Given as goal

-- the blocks so far have no such place
abbrev pub invariant-loop-from : goal.invariant-loop-from
invariant-loop-from l = record {
  within : l.from ≤ length l.mask;
  none : list_any (same_as l.wanted) (take l.from l.mask) ≡ false;
}

abbrev pub decreases-loop-from : goal.decreases-loop-from
decreases-loop-from l = length l.mask - l.from
