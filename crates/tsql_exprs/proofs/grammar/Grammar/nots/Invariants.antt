use Rattle.std.proofs.Common.{◌≡◌, length}
use Rattle.tsql_grammar.specs.declared.terminal.Terminal.TheVariants as terminal
use Rattle.tsql_grammar.specs.Forms.{many}
use Rattle.tsql_grammar.specs.Grammar.{word, nots}
use Rattle.tsql_grammar.proofs.Loops.{odd_from}
use Rattle.tsql_exprs.proofs.grammar.Grammar.nots.Given as goal

abbrev pub invariant-more : goal.invariant-more
invariant-more l = odd_from l.odd ((many (word terminal.Not)).reads l.reader.rest.now) ≡ nots.reads l.fn.reader.rest.now

abbrev pub decreases-more : goal.decreases-more
decreases-more l = length l.reader.rest.now
