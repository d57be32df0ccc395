use Rattle.std.proofs.Common.{◌≡◌, ℕ, ◌+◌, ◌<◌, get_or, Less}
use Rattle.cs_types.specs.declared.Key.{Key}
use Rattle.cs_types.specs.Keys.{key_cmp}
use Rattle.store_tests.proofs.version_store_tests.ascend.Given as goal

abbrev pub invariant-loop-i : goal.invariant-loop-i
invariant-loop-i l = (k : ℕ) (d : Key) → k + 1 < l.i → key_cmp (get_or l.keys k d) (get_or l.keys (k + 1) d) ≡ Less
