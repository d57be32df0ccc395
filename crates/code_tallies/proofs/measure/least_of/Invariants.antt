use Rattle.code_tallies.specs.Tables.{reached, is_chosen, AreCounts, AreLeast, present_in}
use Rattle.code_tallies.proofs.measure.least_of.Given as goal

abbrev pub invariant-loop-number : goal.invariant-loop-number
invariant-loop-number l = record {
  counts : AreCounts l.chosen (present_in l.column (is_chosen l.chosen)) (reached l.chosen l.number) l.counts.items;
  least : AreLeast l.chosen l.column (reached l.chosen l.number) l.least.items;
}
