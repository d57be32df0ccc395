use Rattle.schedule_laws.proofs.Law.{logs_agree, one_end, one_summary}
use Rattle.schedule_laws.proofs.one_script_leaves_one_log.Goals as goal

pub returns-clause-entries : goal.returns-clause-entries
returns-clause-entries c = λ origin script log other ground x y. logs_agree origin script ground log other x y

pub returns-clause-state : goal.returns-clause-state
returns-clause-state c = λ origin script log other m n ground x y l k. one_end origin script ground log other m n x y l k

pub returns-clause-summary : goal.returns-clause-summary
returns-clause-summary c = λ origin script log other rows ground x y. one_summary log other rows (logs_agree origin script ground log other x y)
