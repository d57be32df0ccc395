use Rattle.std.proofs.Common.{take}
use Rattle.version_store.specs.Newest.{IsApart}
use Rattle.version_store.specs.Loads.{newest_first, found}
use Rattle.version_store.proofs.runs.Runs.is_apart.Given as goal

abbrev pub invariant-loop-run : goal.invariant-loop-run
invariant-loop-run l = IsApart l.least l.greatest (found (newest_first (take l.run-index l.run-items)))
