use Rattle.std.proofs.Common.{ℕ, ◌-◌, ◌<◌, ◌≤◌, ◌<ℤ◌, length, get_or}
use Rattle.write_set.specs.declared.write.Write.{Write}
use Rattle.batch_scan.proofs.hidden.writes_below.Given as goal

abbrev pub invariant-loop-low : goal.invariant-loop-low
invariant-loop-low l = record {
  order : l.low ≤ l.high;
  bound : l.high ≤ length l.own;
  below : (i : ℕ) (d : Write) → i < l.low → i < length l.own → (get_or l.own i d).key.0 <ℤ l.key.0;
}

abbrev pub decreases-loop-low : goal.decreases-loop-low
decreases-loop-low l = l.high - l.low
