use Rattle.std.proofs.Common.{◌≡◌, length}
use Rattle.scan_tests.proofs.batch_scan_tests.views.marked.Given as goal

abbrev pub invariant-loop-position : goal.invariant-loop-position
invariant-loop-position g l = length l.marks ≡ l.fn.count
