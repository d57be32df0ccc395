use Rattle.std.proofs.Common.{◌≡◌, ◌++◌, drop}
use Rattle.tsql_create.specs.Written.{marked_keys}
use Rattle.tsql_create.proofs.written.add_marked_keys.Given as goal

abbrev pub invariant-loop-mark : goal.invariant-loop-mark
invariant-loop-mark l = l.keys ++ marked_keys l.column (drop l.mark-index l.marks) ≡ l.fn.keys ++ marked_keys l.column l.marks
