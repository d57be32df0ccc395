use Rattle.std.proofs.Common.{◌≡◌, length}
use Rattle.tsql_grammar.specs.Terminals.{among}
use Rattle.tsql_exprs.proofs.reader.is_among.Given as goal

abbrev pub invariant-more : goal.invariant-more
invariant-more l = among l.terminal l.rest ≡ among l.fn.terminal l.fn.terminals

abbrev pub decreases-more : goal.decreases-more
decreases-more l = length l.rest
