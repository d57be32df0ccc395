use Rattle.std.proofs.Common.{take}
use Rattle.version_store.specs.Newest.{AreBefore}
use Rattle.store_tests.proofs.version_store_tests.are_before.Given as goal

abbrev pub invariant-loop-key : goal.invariant-loop-key
invariant-loop-key l = AreBefore l.commit (take l.key-index l.keys) l.recent.changes
