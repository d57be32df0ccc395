use Rattle.std.proofs.Common.{◌≡◌, drop}
use Rattle.tsql_create.specs.Written.{first_not_null}
use Rattle.tsql_create.proofs.written.first_not_null.Given as goal

abbrev pub invariant-loop-mark : goal.invariant-loop-mark
invariant-loop-mark l = first_not_null (drop l.mark-index l.marks) ≡ first_not_null l.marks
