use Rattle.std.proofs.Common.{◌≡◌, take}
use Rattle.write_set.specs.Writes.{write_keys}
use Rattle.group_directory.proofs.commits.written_keys.Given as goal

abbrev pub invariant-loop-i : goal.invariant-loop-i
invariant-loop-i l = l.keys.items ≡ write_keys (take l.i l.own)
