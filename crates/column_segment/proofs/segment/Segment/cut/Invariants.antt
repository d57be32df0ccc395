use Rattle.std.proofs.Common.{◌≡◌, ◌<◌, ◌≤◌, ◌+◌, ◌-◌, ℕ, true, false}
use Rattle.column_segment.specs.Cells.{is_below}
use Rattle.column_segment.specs.Bodies.{cell_of_code}
use Rattle.column_segment.proofs.segment.Segment.cut.Given as goal

abbrev pub invariant-loop-low : goal.invariant-loop-low
invariant-loop-low l = record {
  ordered : l.low ≤ l.high;
  within : l.high ≤ l.last + 1;
  before : (code : ℕ) → code < l.low → is_below l.tied l.bound (cell_of_code l.self.body code) ≡ true;
  after : (code : ℕ) → l.high ≤ code → code ≤ l.last → is_below l.tied l.bound (cell_of_code l.self.body code) ≡ false;
}

abbrev pub decreases-loop-low : goal.decreases-loop-low
decreases-loop-low l = l.high - l.low
