use Rattle.std.proofs.Common.{◌-◌, ◌<◌, ◌≤◌, length}
use Rattle.std.specs.List.{AllWithin}
use Rattle.delta_store.specs.Versions.{AreByBegin}
use Rattle.delta_store.proofs.frozen.Frozen.first_after.Given as goal

abbrev pub invariant-loop-low : goal.invariant-loop-low
invariant-loop-low l = record {
  order : l.low ≤ l.high;
  bound : l.high ≤ length l.self;
  before : AreByBegin l.self → AllWithin (λ v. v.version.begin ≤ l.begin) l.self 0 l.low;
  after : AreByBegin l.self → AllWithin (λ v. l.begin < v.version.begin) l.self l.high (length l.self);
}

abbrev pub decreases-loop-low : goal.decreases-loop-low
decreases-loop-low l = l.high - l.low
