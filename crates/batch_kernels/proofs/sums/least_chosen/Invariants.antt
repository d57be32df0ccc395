use Rattle.std.proofs.Common.{◌≡◌}
use Rattle.batch_kernels.specs.Places.{places, least_with}
use Rattle.batch_kernels.proofs.sums.least_chosen.Given as goal

abbrev pub invariant-loop-i : goal.invariant-loop-i
invariant-loop-i l = l.all ≡ least_with l.least l.codes (places l.mask l.i)
