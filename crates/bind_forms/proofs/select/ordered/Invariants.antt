use Rattle.std.proofs.Common.{◌≡◌, ◌++◌, map, drop}
use Rattle.bind_forms.specs.Plans.{oitem_of}
use Rattle.bind_forms.proofs.select.ordered.Given as goal

abbrev pub invariant-loop-tree : goal.invariant-loop-tree
invariant-loop-tree l = l.made ++ map (oitem_of l.schema) (drop l.tree-index l.trees) ≡ map (oitem_of l.schema) l.trees
