use Rattle.std.proofs.Common.{◌≡◌, drop}
use Rattle.cs_predicate.specs.Sides.{lent}
use Rattle.cs_model.specs.Truths.{among, or}
use Rattle.cs_predicate.proofs.predicate.among.Given as goal

-- the truth so far and that of the values that are left make the whole
abbrev pub invariant-loop-constant : goal.invariant-loop-constant
invariant-loop-constant l = or l.found (among (lent l.cell) (drop l.constant-index l.list)) ≡ among (lent l.cell) l.list
