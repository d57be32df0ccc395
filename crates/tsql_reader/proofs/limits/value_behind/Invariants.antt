use Rattle.std.proofs.Common.{◌≡◌, length}
use Rattle.tsql_reader.specs.Limits.{value_behind}
use Rattle.tsql_reader.proofs.limits.value_behind.Given as goal

abbrev pub invariant-more : goal.invariant-more
invariant-more l = value_behind l.left l.rest ≡ value_behind 999 l.fn.symbols

abbrev pub decreases-more : goal.decreases-more
decreases-more l = length l.rest
