use Rattle.std.proofs.Common.{◌≡◌, drop}
use Rattle.tsql_create.specs.Written.{first_null}
use Rattle.tsql_create.proofs.written.first_null.Given as goal

abbrev pub invariant-loop-mark : goal.invariant-loop-mark
invariant-loop-mark l = first_null (drop l.mark-index l.marks) ≡ first_null l.marks
