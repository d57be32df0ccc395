use Rattle.std.proofs.Common.{◌≡◌, length}
use Rattle.tsql_reader.specs.Limits.{value_over}
use Rattle.tsql_reader.proofs.limits.value_over.Given as goal

abbrev pub invariant-more : goal.invariant-more
invariant-more l = value_over l.rest ≡ value_over l.fn.symbols

abbrev pub decreases-more : goal.decreases-more
decreases-more l = length l.rest
