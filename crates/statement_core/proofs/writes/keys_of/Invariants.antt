use Rattle.std.proofs.Common.{◌≡◌, take}
use Rattle.write_set.specs.Writes.{write_keys}
use Rattle.statement_core.proofs.writes.keys_of.Given as goal

abbrev pub invariant-loop-write : goal.invariant-loop-write
invariant-loop-write l = l.keys.items ≡ write_keys (take l.write-index l.writes)
