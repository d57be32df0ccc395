-- The value of a node of an expression over a number, from those of its parts.
use Rattle.std.proofs.Common.{◌≡◌, ◌∙◌, sym, ap, ℤ, List, [], ◌∷◌, map, Option, Some, None, Result, Ok, Err, IfOk, IfSome, Bool, arith}
use Rattle.std.specs.declared.alloc.Global.{Global}
use Rattle.std.specs.declared.vec.Vec.{Vec}
use Rattle.cs_base.specs.declared.memory.Memory.{Memory}
use Rattle.cs_types.specs.declared.Loose.{Loose}
use Rattle.cs_types.specs.declared.Loose.TheVariants.{Number}
use Rattle.cs_types.specs.declared.Value.TheVariants as cells
use Rattle.cs_model.specs.declared.expr.Times.{Times}
use Rattle.cs_model.specs.declared.expr.Expr.{Expr}
use Rattle.cs_model.specs.declared.expr.Expr.TheOpen.{Expr-F}
use Rattle.cs_model.specs.declared.expr.Expr.TheFolds.{fold-roll-Expr}
use Rattle.cs_model.specs.declared.expr.Expr.TheVariants.{rolls-Constant, rolls-Signed, rolls-Sum, rolls-Product}
use Rattle.cs_model.specs.declared.expr.Expr.TheVariants as node
use Rattle.cs_model.specs.Expressions.{Computed, chain, compute_step, on_one, product, signed, sum, whole_of, ◌>>=◌}
use Rattle.cs_model.specs.Series.{series_schema}
use Rattle.batch_compute.specs.Values.{at, over, AreOver, AreOverBoth}

pub literal_is : (number : ℤ) (literal : Loose) → over number (node.Constant literal) ≡ Ok literal
literal_is number literal = ap (over number) (sym (rolls-Constant literal)) ∙ fold-roll-Expr Computed (compute_step series_schema (cells.Number number ∷ [])) (Expr-F.Constant literal)

-- where the first part has this value
module _ (number value : ℤ) where
  pub under_sign : (minus : Bool) (part : Expr) (found : Option ℤ) → over number part ≡ Ok (Number value 0) → IfSome found (λ z. signed minus value ≡ Ok (Number z 0))
      → IfSome found (λ z. over number (node.Signed minus part) ≡ Ok (Number z 0))
  under_sign minus part None is h = tt
  under_sign minus part (Some z) is h =
      ap (over number) (sym (rolls-Signed minus part)) ∙ fold-roll-Expr Computed (compute_step series_schema (cells.Number number ∷ [])) (Expr-F.Signed minus part)
      ∙ ap (λ p. p >>= (λ x. on_one (signed minus) (whole_of x))) is ∙ h

  pub in_sums : (first : Expr) (rest : List (Bool × Expr)) (found : Option ℤ) → over number first ≡ Ok (Number value 0)
      → IfSome found (λ z. chain sum (Number value 0) (map (λ p. (p.0, over number p.1)) rest) ≡ Ok (Number z 0)) → IfSome found (λ z. over number (node.Sum first rest) ≡ Ok (Number z 0))
  in_sums first rest None is h = tt
  in_sums first rest (Some z) is h =
      ap (over number) (sym (rolls-Sum first rest)) ∙ fold-roll-Expr Computed (compute_step series_schema (cells.Number number ∷ [])) (Expr-F.Sum first rest)
      ∙ ap (λ p. p >>= (λ x. chain sum x (map (λ q. (q.0, over number q.1)) rest))) is ∙ h

  pub in_products : (first : Expr) (rest : List (Times × Expr)) (found : Option ℤ) → over number first ≡ Ok (Number value 0)
      → IfSome found (λ z. chain product (Number value 0) (map (λ p. (p.0, over number p.1)) rest) ≡ Ok (Number z 0)) → IfSome found (λ z. over number (node.Product first rest) ≡ Ok (Number z 0))
  in_products first rest None is h = tt
  in_products first rest (Some z) is h =
      ap (over number) (sym (rolls-Product first rest)) ∙ fold-roll-Expr Computed (compute_step series_schema (cells.Number number ∷ [])) (Expr-F.Product first rest)
      ∙ ap (λ p. p >>= (λ x. chain product x (map (λ q. (q.0, over number q.1)) rest))) is ∙ h

-- ---- over lists of numbers, where the first part has these values

module _ (numbers firsts values : List ℤ) (first : Expr) (are : AreOver (λ number. over number first) numbers firsts) where
  pub signs_are : (minus : Bool) → AreOver (signed minus) firsts values → AreOver (λ number. over number (node.Signed minus first)) numbers values
  signs_are minus under = (
    under.0 ∙ are.0,
    λ k within. under_sign (at numbers k) (at firsts k) minus first (Some (at values k)) (are.1 k within) (under.1 k (let long = are.0 in omega (arith, long, within))),
  )

  sums_are : (rest : List (Bool × Expr)) → AreOverBoth (λ total number. chain sum (Number total 0) (map (λ p. (p.0, over number p.1)) rest)) firsts numbers values
      → AreOver (λ number. over number (node.Sum first rest)) numbers values
  sums_are rest chains = (
    chains.0 ∙ are.0,
    λ k within. in_sums (at numbers k) (at firsts k) first rest (Some (at values k)) (are.1 k within) (chains.1 k (let long = are.0 in omega (arith, long, within))),
  )

  products_are : (rest : List (Times × Expr)) → AreOverBoth (λ total number. chain product (Number total 0) (map (λ p. (p.0, over number p.1)) rest)) firsts numbers values
      → AreOver (λ number. over number (node.Product first rest)) numbers values
  products_are rest chains = (
    chains.0 ∙ are.0,
    λ k within. in_products (at numbers k) (at firsts k) first rest (Some (at values k)) (are.1 k within) (chains.1 k (let long = are.0 in omega (arith, long, within))),
  )

module _ (numbers firsts : List ℤ) (first : Expr) (are : AreOver (λ number. over number first) numbers firsts) where
  pub sums_made : (rest : List (Bool × Expr)) (made : Result (Option (Vec ℤ Global)) Memory)
      → IfOk made (λ found. IfSome found (λ values. AreOverBoth (λ total number. chain sum (Number total 0) (map (λ p. (p.0, over number p.1)) rest)) firsts numbers values.items))
      → IfOk made (λ found. IfSome found (λ values. AreOver (λ number. over number (node.Sum first rest)) numbers values.items))
  sums_made rest (Ok (Some values)) chains = sums_are numbers firsts values.items first are rest chains
  sums_made rest (Ok None) chains = tt
  sums_made rest (Err memory) chains = tt

  pub products_made : (rest : List (Times × Expr)) (made : Result (Option (Vec ℤ Global)) Memory)
      → IfOk made (λ found. IfSome found (λ values. AreOverBoth (λ total number. chain product (Number total 0) (map (λ p. (p.0, over number p.1)) rest)) firsts numbers values.items))
      → IfOk made (λ found. IfSome found (λ values. AreOver (λ number. over number (node.Product first rest)) numbers values.items))
  products_made rest (Ok (Some values)) chains = products_are numbers firsts values.items first are rest chains
  products_made rest (Ok None) chains = tt
  products_made rest (Err memory) chains = tt
