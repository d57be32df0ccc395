use Rattle.std.proofs.Common.{◌≡◌, ◌++◌, map, drop}
use Rattle.bind_forms.specs.Exprs.{times_of, factor_of, term_of}
use Rattle.bind_forms.proofs.expr.+expr.Given as goal

abbrev pub invariant-more_factors-loop-tree : goal.invariant-more_factors-loop-tree
invariant-more_factors-loop-tree l =
    l.made ++ map (λ p. (times_of p.0.sign, factor_of l.schema p.1)) (drop l.tree-index l.trees) ≡ map (λ p. (times_of p.0.sign, factor_of l.schema p.1)) l.trees

abbrev pub invariant-more_terms-loop-tree : goal.invariant-more_terms-loop-tree
invariant-more_terms-loop-tree l =
    l.made ++ map (λ p. (p.0.minus, term_of l.schema p.1)) (drop l.tree-index l.trees) ≡ map (λ p. (p.0.minus, term_of l.schema p.1)) l.trees
