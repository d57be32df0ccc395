-- The floor: what ended at or below it nobody reads any more.
use Rattle.std.specs.Prelude.{◌≡◌, ◌⊎◌, ℕ, ◌≤◌, Option, None, Some}
use Rattle.cs_model.specs.State.{Txn, State}

abbrev pub snapshot_of : Option Txn → Option ℕ
snapshot_of None = None
snapshot_of (Some txn) = txn.snapshot

-- the snapshots of the open transactions, by session
abbrev pub snapshots : State → ℕ → Option ℕ
snapshots m session = snapshot_of (m.txns session)

-- the floor is the least of these snapshots, or the clock where there is none
pub record IsFloor (taken : ℕ → Option ℕ) (clock floor : ℕ) : Type 0 where
  pub least : (session s : ℕ) → taken session ≡ Some s → floor ≤ s
  pub one_of : ((session : ℕ) × (taken session ≡ Some floor)) ⊎ ((floor ≡ clock) × ((session : ℕ) → taken session ≡ None))
