-- Expressions and their parts.
use Rattle.std.proofs.Common.{◌≡◌, List, [], ◌∷◌, ◌++◌, map, Bool, true, false, ◌&&◌, refl, ap, sym, ◌∙◌, rules, ◌↔◌}
use Rattle.std.specs.Prelude.{IsTrue}
use Rattle.std.specs.List.{flat_map}
use Rattle.std.proofs.lemmas.List.Folds.{flat_map-map}
use Rattle.cs_types.specs.declared.Schema.{Schema}
use Rattle.tsql_trees.specs.declared.expr.ExprTree.{ExprTree, out-ExprTree, the_lemmas}
use Rattle.tsql_trees.specs.declared.expr.FactorTree.{fold-FactorTree}
use Rattle.tsql_trees.specs.declared.expr.TermTree.{TermTree, out-TermTree, fold-TermTree}
use Rattle.bind_faults.specs.declared.setting.Setting.{Setting}
use Rattle.bind_faults.specs.Values.{no_more, is_alone, alone_primary, alone_factor, alone_term, alone_expr, within_expr, within_term, within_primary}

module _ (schema : Schema) (setting : Setting) where
  pub term_parts : (t : TermTree) → within_term schema setting t
      ≡ within_primary schema setting (out-TermTree t).first.primary ++ flat_map (λ p. within_primary schema setting p.1.primary) (out-TermTree t).rest
  term_parts t = search (rules, the_lemmas, flat_map-map)

  pub expr_parts : (e : ExprTree) → within_expr schema setting e
      ≡ within_term schema setting (out-ExprTree e).first ++ flat_map (λ p. within_term schema setting p.1) (out-ExprTree e).rest
  expr_parts e = search (rules, the_lemmas, flat_map-map)

-- ---- what stands alone

no_more_map : {X Y : Type 0} (f : X → Y) (xs : List X) → no_more (map f xs) ≡ no_more xs
no_more_map f [] = refl
no_more_map f (x ∷ xs) = refl

abbrev pub is_alone_term : TermTree → Bool
is_alone_term t = fold-TermTree Bool Bool Bool Bool alone_primary alone_expr alone_factor alone_term t

alone_parts : (e : ExprTree) → is_alone e ≡ no_more (out-ExprTree e).rest && is_alone_term (out-ExprTree e).first
alone_parts e = search (rules, the_lemmas, no_more_map)

alone_term_parts : (t : TermTree) → is_alone_term t ≡ no_more (out-TermTree t).rest && fold-FactorTree Bool Bool Bool Bool alone_primary alone_expr alone_factor alone_term (out-TermTree t).first
alone_term_parts t = search (rules, the_lemmas, no_more_map)

and_false : (b : Bool) → (b && false) ≡ false
and_false true = refl
and_false false = refl

more_than_none : {X : Type 0} (xs : List X) (empty : Bool) → empty ≡ false → (IsTrue empty ↔ (xs ≡ [])) → no_more xs ≡ false
more_than_none [] empty e i = let h : IsTrue empty = i.1 refl in cc
more_than_none (x ∷ xs) empty e i = refl

module _ (e : ExprTree) (empty : Bool) (f : empty ≡ false) where
  pub longer_sum : (IsTrue empty ↔ ((out-ExprTree e).rest ≡ [])) → false ≡ is_alone e
  longer_sum i = sym (alone_parts e ∙ ap (λ z. z && is_alone_term (out-ExprTree e).first) (more_than_none (out-ExprTree e).rest empty f i))

  pub longer_product : (IsTrue empty ↔ ((out-TermTree (out-ExprTree e).first).rest ≡ [])) → false ≡ is_alone e
  longer_product i =
      let t = (out-ExprTree e).first in
      let below : is_alone_term t ≡ false =
      alone_term_parts t ∙ ap (λ z. z && fold-FactorTree Bool Bool Bool Bool alone_primary alone_expr alone_factor alone_term (out-TermTree t).first) (more_than_none (out-TermTree t).rest empty f i) in
      sym (alone_parts e ∙ ap (λ z. no_more (out-ExprTree e).rest && z) below ∙ and_false (no_more (out-ExprTree e).rest))
