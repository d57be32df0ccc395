use Rattle.std.proofs.Common.{◌+◌, ◌*◌}
use Rattle.statement_work.proofs.workers.+workers.Given as goal

abbrev pub decreases-parts : goal.decreases-parts
decreases-parts g l = 2 * l.workers

abbrev pub decreases-back : goal.decreases-back
decreases-back g l = 2 * l.others + 1
