use Rattle.std.proofs.Common.{◌≡◌, length}
use Rattle.tsql_tokens.specs.Bytes.{goes_on_word, skip_while}
use Rattle.tsql_tokens.proofs.bytes.skip_word.Given as goal

abbrev pub invariant-more : goal.invariant-more
invariant-more l = skip_while goes_on_word l.rest ≡ skip_while goes_on_word l.fn.text

abbrev pub decreases-more : goal.decreases-more
decreases-more l = length l.rest
