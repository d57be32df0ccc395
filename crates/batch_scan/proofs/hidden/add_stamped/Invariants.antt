use Rattle.std.proofs.Common.{take}
use Rattle.batch_scan.specs.Hidden.{Adds}
use Rattle.batch_scan.proofs.Added.{late_in}
use Rattle.batch_scan.proofs.hidden.add_stamped.Given as goal

abbrev pub invariant-loop-stamp : goal.invariant-loop-stamp
invariant-loop-stamp l = Adds l.packed (late_in l.s (take l.stamp-index l.stamps)) l.initial.hidden.items l.hidden.items
