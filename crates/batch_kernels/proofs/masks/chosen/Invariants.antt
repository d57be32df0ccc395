use Rattle.std.proofs.Common.{◌≡◌, length}
use Rattle.batch_kernels.specs.Places.{places}
use Rattle.batch_kernels.proofs.masks.chosen.Given as goal

abbrev pub invariant-loop-i : goal.invariant-loop-i
invariant-loop-i l = l.chosen ≡ length (places l.mask l.i)
