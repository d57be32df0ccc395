use Rattle.std.proofs.Common.{◌≡◌, ◌≤◌, length, take}
use Rattle.delta_store.specs.Index.{place_in}
use Rattle.delta_store.specs.Runs.{pairs_of}
use Rattle.delta_store.proofs.runs.place_of.Given as goal

abbrev pub invariant-loop-older : goal.invariant-loop-older
invariant-loop-older l = record {
  within : l.older ≤ length l.runs;
  places : place_in (pairs_of l.runs) l.key ≡ place_in (pairs_of (take l.older l.runs)) l.key;
}

abbrev pub decreases-loop-older : goal.decreases-loop-older
decreases-loop-older l = l.older
