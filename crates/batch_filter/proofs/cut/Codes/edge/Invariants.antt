use Rattle.std.proofs.Common.{◌≡◌, ◌-◌, ◌+◌, ◌<◌, ◌≤◌, ℕ, true, false}
use Rattle.batch_filter.specs.Codes.{is_past, order_at}
use Rattle.batch_filter.proofs.cut.Codes.edge.Given as goal

-- the edge lies from one code up to another
abbrev pub invariant-loop-low : goal.invariant-loop-low
invariant-loop-low l = record {
  least : l.self.first ≤ l.low;
  ordered : l.low ≤ l.high;
  most : l.high ≤ l.self.last + 1;
  before : (i : ℕ) → l.self.first ≤ i → i < l.low → is_past l.over (order_at l.self.kind l.segment.body l.constant i) ≡ false;
  after : (i : ℕ) → l.high ≤ i → i ≤ l.self.last → is_past l.over (order_at l.self.kind l.segment.body l.constant i) ≡ true;
}

abbrev pub decreases-loop-low : goal.decreases-loop-low
decreases-loop-low l = l.high - l.low
