use Rattle.std.proofs.Common.{◌≡◌, take}
use Rattle.version_store.specs.Loads.{newest_first, found}
use Rattle.version_store.proofs.runs.Runs.newest.Given as goal

abbrev pub invariant-loop-run : goal.invariant-loop-run
invariant-loop-run l = l.newest ≡ found (newest_first (take l.run-index l.run-items)) l.key
