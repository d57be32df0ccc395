use Rattle.std.proofs.Common.{◌≡◌, length}
use Rattle.tsql_tokens.specs.Bytes.{is_digit, skip_while}
use Rattle.tsql_tokens.proofs.bytes.skip_digits.Given as goal

abbrev pub invariant-more : goal.invariant-more
invariant-more l = skip_while is_digit l.rest ≡ skip_while is_digit l.fn.text

abbrev pub decreases-more : goal.decreases-more
decreases-more l = length l.rest
