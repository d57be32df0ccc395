use Rattle.std.proofs.Common.{◌≡◌, ◌++◌, map, drop}
use Rattle.bind_forms.specs.Literals.{const_of, beside}
use Rattle.bind_forms.proofs.pred.consts_beside.Given as goal

abbrev pub invariant-loop-tree : goal.invariant-loop-tree
invariant-loop-tree l =
    l.made ++ map (λ const. beside l.schema l.column (const_of const)) (drop l.tree-index l.trees) ≡ map (λ const. beside l.schema l.column (const_of const)) l.trees
