use Rattle.std.proofs.Common.{◌-◌, ◌≤◌}
use Rattle.code_tallies.specs.Tables.{is_chosen, AreCounts}
use Rattle.code_tallies.proofs.pieces.rows_by_pieces.Given as goal

abbrev pub invariant-loop-from : goal.invariant-loop-from
invariant-loop-from l = record {
  within : l.from ≤ l.chosen.length;
  counts : AreCounts l.chosen (is_chosen l.chosen) l.from l.counts.items;
}

abbrev pub decreases-loop-from : goal.decreases-loop-from
decreases-loop-from l = l.chosen.length - l.from
