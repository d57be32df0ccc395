use Rattle.std.proofs.Common.{arith}
use Rattle.group_directory.proofs.laws.snapshots_lie_within.Goals as goal

pub returns-clause-floor : goal.returns-clause-floor
returns-clause-floor c = λ directory changes floor session s j is at. is.least session s at

pub returns-clause-clock : goal.returns-clause-clock
returns-clause-clock c = λ directory changes session s j at. j.txns.snapshots session s at

pub returns-clause-pruned : goal.returns-clause-pruned
returns-clause-pruned c = λ directory changes session s j at. let low = j.pruned in let le = j.is_floor.least session s at in omega (arith, low, le)
