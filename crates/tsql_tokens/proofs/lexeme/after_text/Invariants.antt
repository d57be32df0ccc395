use Rattle.std.proofs.Common.{◌≡◌, length}
use Rattle.tsql_tokens.specs.Behind.{after_text}
use Rattle.tsql_tokens.proofs.lexeme.after_text.Given as goal

abbrev pub invariant-more : goal.invariant-more
invariant-more l = after_text l.rest ≡ after_text l.fn.text

abbrev pub decreases-more : goal.decreases-more
decreases-more l = length l.rest
