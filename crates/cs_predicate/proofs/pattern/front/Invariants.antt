use Rattle.std.proofs.Common.{◌≡◌, ◌≤◌, length, true}
use Rattle.cs_model.specs.Likes.{has_end, is_like}
use Rattle.cs_predicate.proofs.pattern.front.Given as goal

-- what is left is like the rest of the pattern as the whole is like the whole; and where an end of the text is like the pattern,
-- an end of what is left is like the rest
abbrev pub invariant-loop-first : goal.invariant-loop-first
invariant-loop-first l = record {
  same : is_like l.rest l.left ≡ is_like l.fn.pattern l.fn.text;
  ends : has_end (is_like l.fn.pattern) l.fn.text ≡ true → has_end (is_like l.rest) l.left ≡ true;
  within : length l.rest ≤ length l.fn.pattern;
}

abbrev pub decreases-loop-first : goal.decreases-loop-first
decreases-loop-first l = length l.rest
