use Rattle.std.proofs.Common.{◌≡◌, length}
use Rattle.cs_model.specs.Likes.{has_end, is_like}
use Rattle.cs_predicate.proofs.pattern.front_of_ends.Given as goal

-- no end of the text is like the pattern that is not an end of what is left
abbrev pub invariant-loop-after : goal.invariant-loop-after
invariant-loop-after l = has_end (is_like l.fn.pattern) l.left ≡ has_end (is_like l.fn.pattern) l.fn.text

abbrev pub decreases-loop-after : goal.decreases-loop-after
decreases-loop-after l = length l.left
