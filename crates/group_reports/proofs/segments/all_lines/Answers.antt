use Rattle.std.proofs.Common.{◌+◌, take, sym, subst, arith}
use Rattle.group_log.specs.Segments.{AreSegmentLines}
use Rattle.group_reports.specs.Segments.{compressed}
use Rattle.group_reports.proofs.Lines.{parts_more}
use Rattle.group_reports.proofs.segments.all_lines.Goals as goal

pub loop-place-preserved : goal.loop-place-preserved
loop-place-preserved c =
    let groups = c.args.groups.now in
    let i = c.loop-place.place in
    subst (AreSegmentLines c.args.schema.now (compressed (take (i + 1) groups))) (sym c.in_ok-append.ensures.ok)
    (parts_more c.args.schema.now groups i c.at-group.result.now c.loop-place.lines c.in_ok-part_lines.field-0 (omega (arith, c.loop-place-test.true, c.len-place-end.ensures)) c.at-group.ensures.item c.loop-place.invariant c.in_ok-part_lines.ensures)
