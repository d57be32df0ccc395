-- One more of the values of an INSERT.
use Rattle.std.proofs.Common.{◌≡◌, ℕ, ◌+◌, ◌<◌, length, drop, get_or, List, Option, ap, sym, ◌∙◌}
use Rattle.cs_types.specs.declared.Schema.{Schema}
use Rattle.tsql_trees.specs.declared.leaf.NameTree.{NameTree}
use Rattle.tsql_trees.specs.declared.expr.ExprTree.{ExprTree}
use Rattle.bind_faults.specs.declared.fault.Fault.{Fault}
use Rattle.bind_faults.specs.declared.setting.Scope.{Scope}
use Rattle.bind_faults.specs.Least.{earlier, least}
use Rattle.bind_faults.specs.Values.{expr_faults}
use Rattle.bind_faults.specs.Inserts.{target, values_faults}
use Rattle.bind_faults.proofs.Leasts.{taken, drop_here}

module _ (schema : Schema) (i : ℕ) (found next total : Option Fault) where
  pub one_more_value : (scope : Scope) (names : Option (List NameTree)) (w : List ExprTree) (x : ExprTree) → i < length w → x ≡ get_or w i x
      → next ≡ earlier found (least (expr_faults schema scope (target schema names i) x))
      → earlier found (least (values_faults schema scope names i (drop i w))) ≡ total → earlier next (least (values_faults schema scope names (i + 1) (drop (i + 1) w))) ≡ total
  one_more_value scope names w x lt is e before =
      taken (expr_faults schema scope (target schema names i) x) (values_faults schema scope names (i + 1) (drop (i + 1) w)) found next total e
      (ap (λ z. earlier found (least (values_faults schema scope names i z))) (sym (drop_here w i x lt is)) ∙ before)
