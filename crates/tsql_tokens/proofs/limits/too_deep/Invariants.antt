use Rattle.std.proofs.Common.{◌≡◌, ◌≤◌, length}
use Rattle.tsql_tokens.specs.Limits.{too_deep}
use Rattle.tsql_tokens.proofs.limits.too_deep.Given as goal

abbrev pub invariant-more : goal.invariant-more
invariant-more l = record {
  within : length l.rest ≤ length l.fn.bytes;
  same : too_deep l.count l.rest ≡ too_deep l.fn.count l.fn.bytes;
}

abbrev pub decreases-more : goal.decreases-more
decreases-more l = length l.rest
