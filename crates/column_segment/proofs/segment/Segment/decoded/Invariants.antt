use Rattle.std.proofs.Common.{◌≡◌, ◌<◌, ◌+◌, ℕ, length, slice_get, Some}
use Rattle.column_segment.specs.Bodies.{cell_in}
use Rattle.column_segment.proofs.segment.Segment.decoded.Given as goal

abbrev pub invariant-loop-i : goal.invariant-loop-i
invariant-loop-i l = record {
  long : length l.all.items ≡ l.i;
  cells : (k : ℕ) → k < l.i → slice_get l.all.items k ≡ Some (cell_in l.self.body (l.from + k));
}
