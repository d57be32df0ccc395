use Rattle.std.proofs.Common.{vec_len}
use Rattle.delta_store.specs.Index.{HaveSamePlaces}
use Rattle.delta_store.specs.Runs.{pairs_of}
use Rattle.delta_store.proofs.runs.merge_newest.Given as goal

abbrev pub invariant-loop-alloc : goal.invariant-loop-alloc
invariant-loop-alloc l = HaveSamePlaces (pairs_of l.initial.runs.items) (pairs_of l.runs.items)

abbrev pub decreases-loop-alloc : goal.decreases-loop-alloc
decreases-loop-alloc l = vec_len l.runs
