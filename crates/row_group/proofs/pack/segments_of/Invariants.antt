use Rattle.std.proofs.Common.{◌≡◌, ◌++◌}
use Rattle.std.specs.Vec.Iter.{into_iter_items}
use Rattle.row_group.specs.Arranged.{AreSegmentsOf}
use Rattle.row_group.proofs.pack.segments_of.Given as goal

abbrev pub invariant-loop-cells : goal.invariant-loop-cells
invariant-loop-cells l = record {
  made : AreSegmentsOf l.yielded l.order l.segments;
  rest : l.yielded ++ into_iter_items l.cells-iterator ≡ l.fn.columns.items;
}
