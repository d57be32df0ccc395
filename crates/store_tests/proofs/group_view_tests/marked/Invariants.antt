use Rattle.std.proofs.Common.{◌≡◌, length}
use Rattle.store_tests.proofs.group_view_tests.marked.Given as goal

abbrev pub invariant-loop-position : goal.invariant-loop-position
invariant-loop-position g l = length l.marks ≡ length l.fn.packed.rows
