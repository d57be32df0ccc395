use Rattle.txn_table.specs.Txns.{txn_at}
use Rattle.txn_table.proofs.Least.{IsLeastBelow}
use Rattle.txn_table.proofs.places.floor_in.Given as goal

abbrev pub invariant-loop-place : goal.invariant-loop-place
invariant-loop-place l = IsLeastBelow (txn_at l.places) l.place-index l.least
