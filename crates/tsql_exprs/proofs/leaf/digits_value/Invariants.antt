use Rattle.std.proofs.Common.{◌≡◌, length}
use Rattle.tsql_grammar.specs.Values.{digits_value}
use Rattle.tsql_exprs.proofs.leaf.digits_value.Given as goal

abbrev pub invariant-more : goal.invariant-more
invariant-more l = digits_value l.value l.rest ≡ digits_value 0 l.fn.bytes

abbrev pub decreases-more : goal.decreases-more
decreases-more l = length l.rest
