use Rattle.std.proofs.Common.{◌≡◌, take}
use Rattle.std.specs.List.{list_any}
use Rattle.batch_kernels.specs.Masks.{same_as}
use Rattle.batch_kernels.proofs.masks.has_in_block.Given as goal

abbrev pub invariant-loop-chosen : goal.invariant-loop-chosen
invariant-loop-chosen l = l.found ≡ list_any (same_as l.wanted) (take l.chosen-index l.block)
