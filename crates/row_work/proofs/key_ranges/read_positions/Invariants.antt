use Rattle.row_work.specs.Ranges.{AreReadBetween}
use Rattle.row_work.proofs.key_ranges.read_positions.Given as goal

abbrev pub invariant-loop-i : goal.invariant-loop-i
invariant-loop-i l = AreReadBetween l.pinned l.group l.packed l.initial.i l.i l.positions.items
