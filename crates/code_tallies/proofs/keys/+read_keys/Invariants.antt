use Rattle.std.proofs.Common.{length}
use Rattle.code_tallies.proofs.keys.+read_keys.Given as goal

abbrev pub decreases-read_keys : goal.decreases-read_keys
decreases-read_keys l = length l.columns.now
