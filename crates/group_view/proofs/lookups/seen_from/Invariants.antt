use Rattle.group_view.specs.Views.{endings_of}
use Rattle.group_view.proofs.Finds.{IsWalk, steps_left}
use Rattle.group_view.proofs.lookups.seen_from.Given as goal

abbrev pub invariant-loop-at : goal.invariant-loop-at
invariant-loop-at l = IsWalk l.store (endings_of l.buffer) l.fn.key l.s l.at

abbrev pub decreases-loop-at : goal.decreases-loop-at
decreases-loop-at l = steps_left l.at
