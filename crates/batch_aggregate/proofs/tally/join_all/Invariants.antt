use Rattle.std.proofs.Common.{◌≡◌, take}
use Rattle.batch_aggregate.specs.Tallies.{all_joined}
use Rattle.batch_aggregate.proofs.tally.join_all.Given as goal

abbrev pub invariant-loop-place : goal.invariant-loop-place
invariant-loop-place l = l.tallies ≡ all_joined l.initial.tallies (take l.place l.others)
