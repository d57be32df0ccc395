use Rattle.std.proofs.Common.{take}
use Rattle.batch_scan.specs.Hidden.{is_written, Adds}
use Rattle.batch_scan.proofs.hidden.add_own.Given as goal

abbrev pub invariant-loop-i : goal.invariant-loop-i
invariant-loop-i l = Adds l.packed (is_written (take l.i l.own) l.packed) l.initial.hidden.items l.hidden.items
