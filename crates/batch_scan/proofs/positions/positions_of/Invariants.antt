use Rattle.std.proofs.Common.{◌≡◌, ◌≤◌, ◌-◌, ◌&&◌, Bool, List, false, filter, length}
use Rattle.std.specs.Prelude.{slice_index_or}
use Rattle.std.specs.List.{range_with_len}
use Rattle.batch_scan.specs.Reads.{AreShown}
use Rattle.batch_scan.specs.Scans.{is_kept}
use Rattle.batch_scan.proofs.positions.positions_of.Given as goal

abbrev pub invariant-loop-from : goal.invariant-loop-from
invariant-loop-from l = record {
  within : l.from ≤ l.len;
  kept : (flags : List Bool) → AreShown flags l.shown → length flags ≡ l.len → l.positions.items ≡ filter (λ position. is_kept l.sieve position && slice_index_or flags position false) (range_with_len 0 l.from);
}

abbrev pub decreases-loop-from : goal.decreases-loop-from
decreases-loop-from l = l.len - l.from
