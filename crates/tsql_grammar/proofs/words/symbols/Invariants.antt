use Rattle.std.proofs.Common.{◌≡◌, take}
use Rattle.tsql_grammar.specs.Words.{symbols_of}
use Rattle.tsql_grammar.proofs.words.symbols.Given as goal

abbrev pub invariant-loop-token : goal.invariant-loop-token
invariant-loop-token l = l.symbols ≡ symbols_of l.text (take l.token-index l.tokens)
