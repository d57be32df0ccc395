use Rattle.std.proofs.Common.{◌≡◌, List, drop}
use Rattle.std.specs.List.{list_all}
use Rattle.cs_types.specs.declared.Loose.{Loose}
use Rattle.cs_model.specs.declared.pred.Relation.TheVariants.{Equal}
use Rattle.cs_model.specs.Skips.{skips_compare}
use Rattle.cs_predicate.specs.Sides.{lent}
use Rattle.batch_filter.specs.Bounds.{AreBounds}
use Rattle.batch_filter.proofs.bounds.Bounds.skip_each.Given as goal

-- what is left of the constants decides, whatever the cells
abbrev pub invariant-loop-constant : goal.invariant-loop-constant
invariant-loop-constant l = (cells : List Loose) → AreBounds cells (lent l.self.least) (lent l.self.greatest) l.self.nulls → list_all (skips_compare Equal cells) (drop l.constant-index l.constants) ≡ list_all (skips_compare Equal cells) l.constants
