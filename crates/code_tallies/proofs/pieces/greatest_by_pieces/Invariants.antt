use Rattle.std.proofs.Common.{◌-◌, ◌≤◌}
use Rattle.code_tallies.specs.Tables.{is_chosen, present_in, AreCounts, AreGreatest}
use Rattle.code_tallies.proofs.pieces.greatest_by_pieces.Given as goal

abbrev pub invariant-loop-from : goal.invariant-loop-from
invariant-loop-from l = record {
  within : l.from ≤ l.chosen.length;
  counts : AreCounts l.chosen (present_in l.column (is_chosen l.chosen)) l.from l.counts.items;
  greatest : AreGreatest l.chosen l.column l.from l.greatest.items;
}

abbrev pub decreases-loop-from : goal.decreases-loop-from
decreases-loop-from l = l.chosen.length - l.from
