use Rattle.std.proofs.Common.{take}
use Rattle.delta_store.specs.Filters.{AreAllAdmitted}
use Rattle.delta_store.proofs.filter.Filter.of.Given as goal

abbrev pub invariant-loop-pair : goal.invariant-loop-pair
invariant-loop-pair l = AreAllAdmitted l.filter (take l.pair-index l.pairs)
