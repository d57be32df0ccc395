use Rattle.std.proofs.Common.{◌≡◌, length}
use Rattle.tsql_grammar.specs.Values.{has_point}
use Rattle.tsql_exprs.proofs.leaf.has_point.Given as goal

abbrev pub invariant-more : goal.invariant-more
invariant-more l = has_point l.rest ≡ has_point l.fn.bytes

abbrev pub decreases-more : goal.decreases-more
decreases-more l = length l.rest
