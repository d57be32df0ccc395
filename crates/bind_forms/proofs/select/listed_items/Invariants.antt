use Rattle.std.proofs.Common.{◌≡◌, ◌++◌, map, drop}
use Rattle.bind_forms.specs.Plans.{item_of}
use Rattle.bind_forms.proofs.select.listed_items.Given as goal

abbrev pub invariant-loop-tree : goal.invariant-loop-tree
invariant-loop-tree l = l.made ++ map (item_of l.schema) (drop l.tree-index l.trees) ≡ map (item_of l.schema) l.trees
