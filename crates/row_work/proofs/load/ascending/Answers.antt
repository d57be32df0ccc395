use Rattle.std.proofs.Common.{rules, List, sym, subst}
use Rattle.std.specs.List.Sorted.{IsStrictlySortedBy}
use Rattle.cs_types.specs.declared.Key.{Key}
use Rattle.cs_types.specs.Keys.{key_cmp}
use Rattle.cs_model.proofs.Tables.{sorted_none}
use Rattle.row_work.proofs.load.ascending.Goals as goal

pub loop-cell-init : goal.loop-cell-init
loop-cell-init c = record {
  are = search rules;
  up = subst (λ (keys : List Key). IsStrictlySortedBy key_cmp keys) (sym c.in_ok-keys.ensures.items) sorted_none;
}
