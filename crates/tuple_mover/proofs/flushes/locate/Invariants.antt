use Rattle.std.proofs.Common.{take}
use Rattle.std.specs.List.{AllZip}
use Rattle.group_view.specs.Claims.{IsMarkedOf}
use Rattle.tuple_mover.proofs.flushes.locate.Given as goal

abbrev pub invariant-loop-place : goal.invariant-loop-place
invariant-loop-place l = AllZip (IsMarkedOf l.claim) (take l.place l.claim.view.groups) l.marked.items
