use Rattle.std.proofs.Common.{◌≡◌, ◌+◌, ◌<◌, ◌^◌, length}
use Rattle.tsql_tokens.specs.Behind.{after_comment}
use Rattle.tsql_tokens.proofs.lexeme.after_comment.Given as goal

abbrev pub invariant-more : goal.invariant-more
invariant-more l = record {
  some : 0 < l.count;
  fits : l.count + length l.rest < 2 ^ 32;
  same : after_comment l.count l.rest ≡ after_comment l.fn.count l.fn.text;
}

abbrev pub decreases-more : goal.decreases-more
decreases-more l = length l.rest
