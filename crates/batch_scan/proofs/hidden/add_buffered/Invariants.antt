use Rattle.std.proofs.Common.{take}
use Rattle.batch_scan.specs.Hidden.{is_ended_by, Adds}
use Rattle.batch_scan.proofs.hidden.add_buffered.Given as goal

abbrev pub invariant-loop-i : goal.invariant-loop-i
invariant-loop-i l = Adds l.packed (is_ended_by (take l.i l.entries) l.s l.packed) l.initial.hidden.items l.hidden.items
