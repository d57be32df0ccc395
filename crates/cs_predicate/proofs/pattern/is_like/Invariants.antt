use Rattle.std.proofs.Common.{◌≡◌}
use Rattle.cs_model.specs.Likes.{is_like}
use Rattle.cs_predicate.specs.Verdicts.{says, to_compare}
use Rattle.cs_predicate.proofs.pattern.is_like.Given as goal

-- what is known says of the whole text
abbrev pub invariant-loop-found : goal.invariant-loop-found
invariant-loop-found l = says l.found ≡ is_like l.fn.pattern l.fn.text

abbrev pub decreases-loop-found : goal.decreases-loop-found
decreases-loop-found l = to_compare l.found
