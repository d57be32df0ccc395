use Rattle.tsql_binder.proofs.Reports.{groups_exactly, segments_exactly}
use Rattle.tsql_binder.proofs.laws.reports_are_asked_for.Goals as goal

pub returns-clause-groups : goal.returns-clause-groups
returns-clause-groups c = groups_exactly

pub returns-clause-segments : goal.returns-clause-segments
returns-clause-segments c = segments_exactly
