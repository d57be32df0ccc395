use Rattle.std.proofs.Common.{◌≡◌, ◌+◌, ◌≤◌, false, length}
use Rattle.tsql_tokens.specs.Cutting.{cut, with_front}
use Rattle.tsql_tokens.proofs.lexer.cut.Given as goal

abbrev pub invariant-more : goal.invariant-more
invariant-more l = record {
  place : l.at + length l.rest ≡ length l.text;
  parentheses : l.open + length l.rest ≤ length l.text;
  same : with_front l.found (cut (length l.rest) l.at l.after_name l.open l.rest) ≡ cut (length l.text) 0 false 0 l.text;
}

abbrev pub decreases-more : goal.decreases-more
decreases-more l = length l.rest
