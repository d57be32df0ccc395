use Rattle.group_directory.proofs.ReportLaws.{segments_shown}
use Rattle.group_directory.proofs.reports.looks_show_segments.Goals as goal

pub returns : goal.returns
returns c = segments_shown
