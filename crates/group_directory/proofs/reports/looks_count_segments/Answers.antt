use Rattle.group_directory.proofs.ReportLaws.{counts_shown}
use Rattle.group_directory.proofs.reports.looks_count_segments.Goals as goal

pub returns : goal.returns
returns c = counts_shown
