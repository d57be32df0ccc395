use Rattle.group_reports.specs.Segments.{compressed}
use Rattle.group_reports.proofs.Printing.{report_prints}
use Rattle.group_reports.proofs.segments.segment_lines.Goals as goal

pub returns-clause-printable : goal.returns-clause-printable
returns-clause-printable c = λ held. report_prints c.args.schema.now (compressed c.args.view.now.groups) c.in_ok-lines.lines held c.in_ok-lines.ensures
