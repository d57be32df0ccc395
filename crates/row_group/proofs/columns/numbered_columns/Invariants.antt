use Rattle.std.proofs.Common.{◌≡◌, ◌++◌}
use Rattle.std.specs.Vec.Iter.{into_iter_items}
use Rattle.row_group.specs.Packings.{numbered}
use Rattle.row_group.proofs.columns.numbered_columns.Given as goal

abbrev pub invariant-loop-numbers : goal.invariant-loop-numbers
invariant-loop-numbers l = record {
  made : l.made.items ≡ numbered l.yielded;
  rest : l.yielded ++ into_iter_items l.numbers-iterator ≡ l.fn.columns.items;
}
