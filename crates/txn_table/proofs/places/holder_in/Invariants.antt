use Rattle.std.proofs.Common.{◌≡◌, ℕ, ◌<◌}
use Rattle.txn_table.specs.Txns.{txn_at, Owns}
use Rattle.txn_table.proofs.places.holder_in.Given as goal

abbrev pub invariant-loop-i : goal.invariant-loop-i
invariant-loop-i l = (other : ℕ) → other < l.i → (other ≡ l.but → ⊥) → Owns (txn_at l.places other) l.key → ⊥
