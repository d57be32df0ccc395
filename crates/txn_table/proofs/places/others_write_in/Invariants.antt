use Rattle.std.proofs.Common.{◌≡◌, ℕ, ◌<◌, []}
use Rattle.txn_table.specs.Txns.{txn_at, own_of}
use Rattle.txn_table.proofs.places.others_write_in.Given as goal

abbrev pub invariant-loop-session : goal.invariant-loop-session
invariant-loop-session l = (other : ℕ) → other < l.session → (other ≡ l.but → ⊥) → own_of (txn_at l.places other) ≡ []
