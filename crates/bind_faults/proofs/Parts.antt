-- Predicates and their parts.
use Rattle.std.proofs.Common.{◌≡◌, ◌++◌, rules}
use Rattle.std.specs.List.{flat_map}
use Rattle.std.proofs.lemmas.List.Folds.{flat_map-map}
use Rattle.cs_types.specs.declared.Schema.{Schema}
use Rattle.tsql_trees.specs.declared.pred.PredTree.{PredTree, out-PredTree, the_lemmas}
use Rattle.tsql_trees.specs.declared.pred.ConjTree.{ConjTree, out-ConjTree}
use Rattle.bind_faults.specs.Predicates.{part_faults, conj_faults, pred_faults}

module _ (schema : Schema) where
  pub conj_parts : (c : ConjTree) → conj_faults schema c
      ≡ part_faults schema (out-ConjTree c).first.part ++ flat_map (λ n. part_faults schema n.part) (out-ConjTree c).rest
  conj_parts c = search (rules, the_lemmas, flat_map-map)

  pub pred_parts : (p : PredTree) → pred_faults schema p
      ≡ conj_faults schema (out-PredTree p).first ++ flat_map (conj_faults schema) (out-PredTree p).rest
  pred_parts p = search (rules, the_lemmas, flat_map-map)
