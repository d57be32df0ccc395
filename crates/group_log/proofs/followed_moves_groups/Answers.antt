use Rattle.group_log.proofs.Moving.{step_moves}
use Rattle.group_log.proofs.Since.{since_log}
use Rattle.group_log.proofs.followed_moves_groups.Goals as goal

pub returns-clause-step : goal.returns-clause-step
returns-clause-step c = step_moves

pub returns-clause-log : goal.returns-clause-log
returns-clause-log c = λ origin log m after entry book made g x moves. let since = since_log origin log m book g x in step_moves origin m after entry book made m.changes since.floor since.stands moves
