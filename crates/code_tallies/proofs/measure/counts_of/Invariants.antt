use Rattle.code_tallies.specs.Tables.{reached, is_chosen, AreCounts, present_in}
use Rattle.code_tallies.proofs.measure.counts_of.Given as goal

abbrev pub invariant-loop-number : goal.invariant-loop-number
invariant-loop-number l = AreCounts l.chosen (present_in l.column (is_chosen l.chosen)) (reached l.chosen l.number) l.counts.items
