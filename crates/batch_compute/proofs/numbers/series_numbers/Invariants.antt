use Rattle.std.proofs.Common.{◌≡◌, ◌+ℤ◌, pos, map}
use Rattle.std.specs.List.{range_with_len}
use Rattle.batch_compute.proofs.numbers.series_numbers.Given as goal

abbrev pub invariant-loop-i : goal.invariant-loop-i
invariant-loop-i l = l.numbers.items ≡ map (λ i. l.start +ℤ pos i) (range_with_len 0 l.i)
