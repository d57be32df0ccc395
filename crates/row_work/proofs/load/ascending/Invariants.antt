use Rattle.std.proofs.Common.{◌≡◌, map, take, Some}
use Rattle.std.specs.List.Sorted.{IsStrictlySortedBy}
use Rattle.cs_types.specs.Keys.{key_cmp}
use Rattle.cs_types.specs.declared.Key.{Key}
use Rattle.row_work.proofs.load.ascending.Given as goal

abbrev pub invariant-loop-cell : goal.invariant-loop-cell
invariant-loop-cell l = record {
  are : map (λ (key : Key). Some key.0) l.keys.items ≡ take l.cell-index l.cells;
  up : IsStrictlySortedBy key_cmp l.keys.items;
}
