use Rattle.std.proofs.Common.{◌≡◌}
use Rattle.cs_types.specs.Rows.{padded}
use Rattle.row_group.specs.Groups.{row_at}
use Rattle.row_work.proofs.reading.packed_row.Given as goal

abbrev pub invariant-loop-column : goal.invariant-loop-column
invariant-loop-column l = l.row ≡ padded l.column (row_at l.packed l.position).cells
