use Rattle.std.proofs.Common.{◌≡◌, ◌++◌, length}
use Rattle.bind_forms.specs.Plans.{row_of}
use Rattle.bind_forms.proofs.write.row_of.Given as goal

abbrev pub invariant-more : goal.invariant-more
invariant-more l = l.made ++ row_of l.names l.schema l.columns l.exprs ≡ row_of l.names l.schema l.fn.columns l.fn.exprs

abbrev pub decreases-more : goal.decreases-more
decreases-more l = length l.columns
