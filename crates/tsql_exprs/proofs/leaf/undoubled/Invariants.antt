use Rattle.std.proofs.Common.{◌≡◌, ◌++◌, length}
use Rattle.tsql_grammar.specs.Values.{undoubled}
use Rattle.tsql_exprs.proofs.leaf.undoubled.Given as goal

abbrev pub invariant-more : goal.invariant-more
invariant-more l = l.text ++ undoubled l.rest ≡ undoubled l.fn.bytes

abbrev pub decreases-more : goal.decreases-more
decreases-more l = length l.rest
