use Rattle.std.proofs.Common.{◌≡◌, take, length}
use Rattle.version_store.specs.Loads.{newest_first}
use Rattle.version_store.proofs.runs.keys_in.Given as goal

abbrev pub invariant-loop-run : goal.invariant-loop-run
invariant-loop-run l = l.keys ≡ length (newest_first (take l.run-index l.runs))
