use Rattle.std.proofs.Common.{◌≡◌, length}
use Rattle.scan_tests.proofs.code_tallies_tests.all_but.Given as goal

abbrev pub invariant-loop-position : goal.invariant-loop-position
invariant-loop-position l = length l.shown ≡ l.fn.length
