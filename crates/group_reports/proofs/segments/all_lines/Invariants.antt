use Rattle.std.proofs.Common.{take}
use Rattle.group_log.specs.Segments.{AreSegmentLines}
use Rattle.group_reports.specs.Segments.{compressed}
use Rattle.group_reports.proofs.segments.all_lines.Given as goal

abbrev pub invariant-loop-place : goal.invariant-loop-place
invariant-loop-place l = AreSegmentLines l.schema (compressed (take l.place l.groups)) l.lines
