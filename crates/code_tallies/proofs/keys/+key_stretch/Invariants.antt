use Rattle.std.proofs.Common.{length}
use Rattle.code_tallies.proofs.keys.+key_stretch.Given as goal

abbrev pub decreases-key_stretch : goal.decreases-key_stretch
decreases-key_stretch l = length l.columns.now
