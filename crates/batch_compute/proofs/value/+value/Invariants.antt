use Rattle.std.proofs.Common.{◌≡◌, [], ◌∷◌, drop, map}
use Rattle.cs_types.specs.declared.Value.TheVariants as cells
use Rattle.cs_types.specs.declared.Loose.TheVariants as loose
use Rattle.cs_model.specs.Expressions.{compute, chain, sum, product}
use Rattle.cs_model.specs.Series.{series_schema}
use Rattle.batch_compute.proofs.value.+value.Given as goal

-- what is computed so far and what is left make the whole
abbrev pub invariant-sum_on-loop-part : goal.invariant-sum_on-loop-part
invariant-sum_on-loop-part l =
    chain sum (loose.Number l.total 0) (map (λ p. (p.0, compute p.1 (cells.Number l.number ∷ []) series_schema)) (drop l.part-index l.rest))
    ≡ chain sum (loose.Number l.fn.left 0) (map (λ p. (p.0, compute p.1 (cells.Number l.number ∷ []) series_schema)) l.rest)

abbrev pub invariant-product_on-loop-part : goal.invariant-product_on-loop-part
invariant-product_on-loop-part l =
    chain product (loose.Number l.total 0) (map (λ p. (p.0, compute p.1 (cells.Number l.number ∷ []) series_schema)) (drop l.part-index l.rest))
    ≡ chain product (loose.Number l.fn.left 0) (map (λ p. (p.0, compute p.1 (cells.Number l.number ∷ []) series_schema)) l.rest)
