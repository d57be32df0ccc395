use Rattle.std.proofs.Common.{◌≡◌, ◌++◌, take, map}
use Rattle.row_work.specs.Sources.{chosen_at}
use Rattle.row_work.proofs.choose.choose_positions.Given as goal

abbrev pub invariant-loop-position : goal.invariant-loop-position
invariant-loop-position l = l.chosen.items ≡ l.initial.chosen.items ++ map (chosen_at l.group l.packed) (take l.position-index l.positions)
