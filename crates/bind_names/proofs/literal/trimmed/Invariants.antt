use Rattle.std.proofs.Common.{◌≡◌, length}
use Rattle.bind_names.specs.Names.{trimmed}
use Rattle.bind_names.proofs.literal.trimmed.Given as goal

abbrev pub invariant-more : goal.invariant-more
invariant-more l = trimmed l.rest ≡ trimmed l.text

abbrev pub decreases-more : goal.decreases-more
decreases-more l = length l.rest
