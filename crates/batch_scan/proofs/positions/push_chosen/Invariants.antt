use Rattle.std.proofs.Common.{◌≡◌, ◌+◌, ◌++◌, map}
use Rattle.batch_kernels.specs.Places.{places}
use Rattle.batch_scan.proofs.positions.push_chosen.Given as goal

abbrev pub invariant-loop-i : goal.invariant-loop-i
invariant-loop-i l = l.positions.items ≡ l.initial.positions.items ++ map (λ k. l.from + k) (places l.mask l.i)
