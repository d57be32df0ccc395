use Rattle.std.proofs.Common.{◌≡◌, length}
use Rattle.tsql_grammar.specs.Values.{behind_point}
use Rattle.tsql_exprs.proofs.leaf.behind_point.Given as goal

abbrev pub invariant-more : goal.invariant-more
invariant-more l = behind_point l.rest ≡ behind_point l.fn.bytes

abbrev pub decreases-more : goal.decreases-more
decreases-more l = length l.rest
