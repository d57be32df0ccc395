use Rattle.std.proofs.Common.{ℕ, ◌+◌, sym, subst}
use Rattle.std.specs.List.{range_with_len, AllZip}
use Rattle.cs_model.specs.declared.report.SegmentLine.{SegmentLine}
use Rattle.row_group.specs.Rows.{column_of}
use Rattle.group_log.specs.Segments.{IsSegmentLine}
use Rattle.group_reports.proofs.Lines.{columns_more}
use Rattle.group_reports.proofs.segments.lines_of.Goals as goal

pub loop-column-preserved : goal.loop-column-preserved
loop-column-preserved c =
    let R : ℕ → SegmentLine → Type 0 = λ column line. IsSegmentLine c.args.id column (column_of c.args.packed.now.rows column) line in
    subst (AllZip R (range_with_len 0 (c.loop-column.column + 1))) (sym c.in_ok-push.ensures.ok)
    (columns_more R c.loop-column.column c.loop-column.lines c.in_ok-line_of.field-0 c.loop-column.invariant c.in_ok-line_of.ensures)
