use Rattle.std.proofs.Common.{◌≡◌, ◌++◌, map, drop}
use Rattle.bind_forms.specs.Preds.{neg_of, conj_of}
use Rattle.bind_forms.proofs.pred.+pred.Given as goal

abbrev pub invariant-more_negs-loop-tree : goal.invariant-more_negs-loop-tree
invariant-more_negs-loop-tree l = l.made ++ map (neg_of l.schema) (drop l.tree-index l.trees) ≡ map (neg_of l.schema) l.trees

abbrev pub invariant-more_conjs-loop-tree : goal.invariant-more_conjs-loop-tree
invariant-more_conjs-loop-tree l = l.made ++ map (conj_of l.schema) (drop l.tree-index l.trees) ≡ map (conj_of l.schema) l.trees
