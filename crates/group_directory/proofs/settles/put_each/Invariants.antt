use Rattle.group_directory.proofs.SettleLemmas.{IsLeft}
use Rattle.group_directory.proofs.settles.put_each.Given as goal

abbrev pub invariant-loop-last : goal.invariant-loop-last
invariant-loop-last l = IsLeft l.marks.items l.groups l.initial.marks.items l.initial.groups

abbrev pub decreases-loop-last : goal.decreases-loop-last
decreases-loop-last l = goal.left-loop-last l
