use Rattle.std.proofs.Common.{◌≡◌, map, take}
use Rattle.delta_store.specs.Runs.{pairs_in}
use Rattle.delta_store.proofs.runs.share.Given as goal

abbrev pub invariant-loop-run : goal.invariant-loop-run
invariant-loop-run l = map pairs_in l.shared.items ≡ take l.run-index (map pairs_in l.runs)
