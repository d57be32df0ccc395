use Rattle.code_tallies.specs.Tables.{reached, is_chosen, AreCounts}
use Rattle.code_tallies.proofs.chosen.Chosen.counts.Given as goal

abbrev pub invariant-loop-number : goal.invariant-loop-number
invariant-loop-number l = AreCounts l.self (is_chosen l.self) (reached l.self l.number) l.counts.items
