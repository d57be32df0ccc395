use Rattle.std.proofs.Common.{◌≡◌, drop, map}
use Rattle.cs_model.specs.Expressions.{compute, chain, sum, product}
use Rattle.cs_predicate.proofs.expression.+compute.Given as goal

-- what is computed so far and what is left make the whole
abbrev pub invariant-sum_on-loop-part : goal.invariant-sum_on-loop-part
invariant-sum_on-loop-part l =
    chain sum l.left (map (λ p. (p.0, compute p.1 l.row l.schema)) (drop l.part-index l.rest))
    ≡ chain sum l.fn.value (map (λ p. (p.0, compute p.1 l.row l.schema)) l.rest)

abbrev pub invariant-product_on-loop-part : goal.invariant-product_on-loop-part
invariant-product_on-loop-part l =
    chain product l.left (map (λ p. (p.0, compute p.1 l.row l.schema)) (drop l.part-index l.rest))
    ≡ chain product l.fn.value (map (λ p. (p.0, compute p.1 l.row l.schema)) l.rest)
