use Rattle.std.proofs.Common.{◌≡◌, ◌+◌, ◌≤◌, ℕ}
use Rattle.std.specs.Option.{option_copied}
use Rattle.batch_scan.specs.Scans.{counts_of, groups_between}
use Rattle.batch_scan.proofs.counts.segment_counts.Given as goal

-- the groups so far are counted, each once at most
pub record CountedTo (read skipped to : ℕ) (counts : ℕ × ℕ) : Type 0 where
  pub read_so_far : read ≡ counts.0
  pub skipped_so_far : skipped ≡ counts.1
  pub few : read + skipped ≤ to

abbrev pub invariant-loop-place : goal.invariant-loop-place
invariant-loop-place l = CountedTo l.read l.skipped l.place (counts_of l.schema (option_copied l.pred) (groups_between l.view l.from l.place))
