use Rattle.batch_scan.proofs.Added.{IsWalk}
use Rattle.batch_scan.proofs.hidden.add_key.Given as goal

abbrev pub invariant-loop-place : goal.invariant-loop-place
invariant-loop-place l = IsWalk l.packed l.end l.initial.place l.place l.initial.hidden.items l.hidden.items
