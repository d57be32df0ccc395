use Rattle.std.proofs.Common.{◌≡◌}
use Rattle.cs_types.specs.Rows.{padded}
use Rattle.group_view.proofs.rows.with_width.Given as goal

abbrev pub invariant-loop-column : goal.invariant-loop-column
invariant-loop-column l = l.made ≡ padded l.column l.row
