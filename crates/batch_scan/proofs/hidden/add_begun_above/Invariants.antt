use Rattle.std.proofs.Common.{◌&&◌, ltb}
use Rattle.batch_scan.specs.Hidden.{begins_late, Adds}
use Rattle.batch_scan.proofs.hidden.add_begun_above.Given as goal

abbrev pub invariant-loop-position : goal.invariant-loop-position
invariant-loop-position l = Adds l.packed (λ p. ltb p l.position && begins_late l.s l.packed p) l.initial.hidden.items l.hidden.items
