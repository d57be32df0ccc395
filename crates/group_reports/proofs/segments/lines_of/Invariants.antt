use Rattle.std.specs.List.{range_with_len, AllZip}
use Rattle.row_group.specs.Rows.{column_of}
use Rattle.group_log.specs.Segments.{IsSegmentLine}
use Rattle.group_reports.proofs.segments.lines_of.Given as goal

abbrev pub invariant-loop-column : goal.invariant-loop-column
invariant-loop-column l = AllZip (λ column line. IsSegmentLine l.id column (column_of l.packed.rows column) line) (range_with_len 0 l.column) l.lines
