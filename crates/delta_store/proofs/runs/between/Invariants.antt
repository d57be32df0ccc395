use Rattle.std.proofs.Common.{◌≤◌, ◌++◌, length, drop}
use Rattle.delta_store.specs.Index.{IsCut}
use Rattle.delta_store.specs.Runs.{pairs_of}
use Rattle.delta_store.proofs.runs.between.Given as goal

abbrev pub invariant-loop-older : goal.invariant-loop-older
invariant-loop-older l = record {
  within : l.older ≤ length l.runs;
  cut : IsCut (l.own.pairs ++ pairs_of (drop l.older l.runs)) l.least l.greatest l.cut.pairs;
}

abbrev pub decreases-loop-older : goal.decreases-loop-older
decreases-loop-older l = l.older
