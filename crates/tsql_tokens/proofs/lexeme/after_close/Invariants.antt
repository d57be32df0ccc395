use Rattle.std.proofs.Common.{◌≡◌, ◌==◌, not, length}
use Rattle.tsql_tokens.specs.Bytes.{skip_while}
use Rattle.tsql_tokens.specs.Behind.{after_one}
use Rattle.tsql_tokens.proofs.lexeme.after_close.Given as goal

abbrev pub invariant-more : goal.invariant-more
invariant-more l = after_one (skip_while (λ b. not (b == 93)) l.rest) ≡ after_one (skip_while (λ b. not (b == 93)) l.fn.text)

abbrev pub decreases-more : goal.decreases-more
decreases-more l = length l.rest
