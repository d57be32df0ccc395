use Rattle.std.proofs.Common.{◌≡◌, ◌<◌, ℕ, slice_index}
use Rattle.std.specs.Bool.{OnFalse}
use Rattle.batch_kernels.proofs.tables.are_one.Given as goal

abbrev pub invariant-loop-key : goal.invariant-loop-key
invariant-loop-key l = OnFalse l.others ((i : ℕ) → i < l.key-index → slice_index l.keys i ≡ l.first)
