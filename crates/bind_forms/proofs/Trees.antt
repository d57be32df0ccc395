-- The expressions of trees by those of their parts.
use Rattle.std.proofs.Common.{◌≡◌, ℕ, suc, ◌+◌, ◌-◌, ◌<◌, List, [], ◌∷◌, map, Bool, refl, ap, sym, ◌∙◌, arith}
use Rattle.std.specs.List.{range_with_len}
use Rattle.cs_types.specs.declared.Schema.{Schema}
use Rattle.tsql_trees.specs.declared.expr.ExprTree.{ExprTree, out-ExprTree, fold_out-ExprTree}
use Rattle.tsql_trees.specs.declared.expr.TermTree.{TermTree, out-TermTree, fold_out-TermTree}
use Rattle.tsql_trees.specs.declared.expr.FactorTree.{FactorTree}
use Rattle.tsql_trees.specs.declared.expr.TimesTree.{TimesTree}
use Rattle.cs_model.specs.declared.expr.Times.{Times}
use Rattle.tsql_trees.specs.declared.leaf.SignTree.{SignTree}
use Rattle.cs_model.specs.declared.expr.Expr.{Expr}
use Rattle.bind_forms.specs.Exprs.{sum_of, product_of, times_of, primary_step, factor_step, term_step, expr_step, factor_of, term_of, expr_of}

-- the numbers from i on
pub range_step : (i n : ℕ) → i < n → range_with_len i (n - i) ≡ i ∷ range_with_len (i + 1) (n - (i + 1))
range_step i n less =
    let one : n - i ≡ suc (n - (i + 1)) = omega arith in ap (range_with_len i) one

mapped_twice : {X Y Z : Type 0} (f : X → Y) (g : Y → Z) (list : List X) → map g (map f list) ≡ map (λ x. g (f x)) list
mapped_twice f g [] = refl
mapped_twice f g (x ∷ rest) = ap (λ z. g (f x) ∷ z) (mapped_twice f g rest)

module _ (schema : Schema) where
  -- a chain of sums, from its parts
  pub expr_made : (tree : ExprTree) (first : Expr) (trees : List (SignTree × TermTree)) (rest : List (Bool × Expr)) → first ≡ term_of schema (out-ExprTree tree).first
      → trees ≡ (out-ExprTree tree).rest → rest ≡ map (λ p. (p.0.minus, term_of schema p.1)) trees → sum_of first rest ≡ expr_of schema tree
  expr_made tree first trees rest is are made =
      ap (λ z. sum_of z rest) is
      ∙ ap (sum_of (term_of schema (out-ExprTree tree).first)) (made ∙ ap (map (λ p. (p.0.minus, term_of schema p.1))) are ∙ sym (mapped_twice (λ p. (p.0, term_of schema p.1)) (λ p. (p.0.minus, p.1)) (out-ExprTree tree).rest))
      ∙ sym (fold_out-ExprTree Expr Expr Expr Expr (primary_step schema) expr_step factor_step term_step tree)

  -- a chain of products, from its parts
  pub term_made : (tree : TermTree) (first : Expr) (trees : List (TimesTree × FactorTree)) (rest : List (Times × Expr)) → first ≡ factor_of schema (out-TermTree tree).first
      → trees ≡ (out-TermTree tree).rest → rest ≡ map (λ p. (times_of p.0.sign, factor_of schema p.1)) trees → product_of first rest ≡ term_of schema tree
  term_made tree first trees rest is are made =
      ap (λ z. product_of z rest) is
      ∙ ap (product_of (factor_of schema (out-TermTree tree).first)) (made ∙ ap (map (λ p. (times_of p.0.sign, factor_of schema p.1))) are ∙ sym (mapped_twice (λ p. (p.0, factor_of schema p.1)) (λ p. (times_of p.0.sign, p.1)) (out-TermTree tree).rest))
      ∙ sym (fold_out-TermTree Expr Expr Expr Expr (primary_step schema) expr_step factor_step term_step tree)
