use Rattle.std.proofs.Common.{◌≡◌}
use Rattle.batch_kernels.specs.Places.{places, greatest_with}
use Rattle.batch_kernels.proofs.sums.greatest_chosen.Given as goal

abbrev pub invariant-loop-i : goal.invariant-loop-i
invariant-loop-i l = l.all ≡ greatest_with l.greatest l.codes (places l.mask l.i)
