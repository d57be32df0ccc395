use Rattle.group_reports.proofs.Lines.{parts_packed}
use Rattle.group_reports.proofs.segments.packed_parts_are.Goals as goal

pub returns : goal.returns
returns c = parts_packed
