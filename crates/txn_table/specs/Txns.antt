-- Open transactions by session.
use Rattle.std.specs.Prelude.{◌≡◌, ◌≢◌, ℕ, ◌<◌, min, List, [], slice_get, Any, ◌==◌, if◌then◌else◌, unwrap_or, Option, None, Some}
use Rattle.cs_types.specs.declared.Key.{Key}
use Rattle.write_set.specs.declared.write.Write.{Write}
use Rattle.write_set.specs.Writes.{staged}
use Rattle.txn_table.specs.declared.txn.Txn.{Txn}

-- what contracts see: the open transactions, each at the place of its session, and the number of the next one
pub record Table : Type 0 where
  pub txns : List (Option Txn)
  pub next : ℕ

-- sessions have numbers below 65
abbrev pub IsSession : ℕ → Type 0
IsSession session = session < 65

abbrev pub or_none : Option (Option Txn) → Option Txn
or_none None = None
or_none (Some txn) = txn

-- the session's open transaction
abbrev pub txn_at : List (Option Txn) → ℕ → Option Txn
txn_at places session = or_none (slice_get places session)

abbrev pub txn_of : Table → ℕ → Option Txn
txn_of table = txn_at table.txns

-- the function with another value at one session
abbrev pub with : (ℕ → Option Txn) → ℕ → Option Txn → ℕ → Option Txn
with txns session txn s = if s == session then txn else txns s

-- a transaction that has read and written nothing yet
abbrev pub opened : ℕ → ℕ → Txn
opened number depth = record { number = number; depth = depth; snapshot = None; own = [] }

abbrev pub deepened : ℕ → Option Txn → Option Txn
deepened depth None = None
deepened depth (Some txn) = Some (record txn { depth = depth })

-- a snapshot once taken stays
abbrev pub fixed : ℕ → Option Txn → Option Txn
fixed clock None = None
fixed clock (Some txn) = Some (record txn { snapshot = Some (unwrap_or txn.snapshot clock) })

-- with more writes laid over its own
abbrev pub widened : List Write → Option Txn → Option Txn
widened writes None = None
widened writes (Some txn) = Some (record txn { own = staged txn.own writes })

abbrev pub depth_of : Option Txn → Option ℕ
depth_of None = None
depth_of (Some txn) = Some txn.depth

abbrev pub snapshot_of : Option Txn → Option ℕ
snapshot_of None = None
snapshot_of (Some txn) = txn.snapshot

abbrev pub own_of : Option Txn → List Write
own_of None = []
own_of (Some txn) = txn.own

-- the transaction has the key among its own writes
abbrev pub Owns : Option Txn → Key → Type 0
Owns txn key = Any (λ (write : Write). write.key ≡ key) (own_of txn)

-- it has, and this is its number
abbrev pub OwnsAs : Option Txn → Key → ℕ → Type 0
OwnsAs None key number = ⊥
OwnsAs (Some txn) key number = (txn.number ≡ number) × Owns (Some txn) key

-- the number is that of another session's transaction that has the key among its own writes
abbrev pub IsHolder : (ℕ → Option Txn) → Key → ℕ → ℕ → Type 0
IsHolder txns key but number = (other : ℕ) × (other ≢ but) × OwnsAs (txns other) key number

-- the snapshots of the open transactions, by session
abbrev pub snapshots_in : (ℕ → Option Txn) → ℕ → Option ℕ
snapshots_in txns session = snapshot_of (txns session)

abbrev pub lesser_of : Option ℕ → Option ℕ → Option ℕ
lesser_of None other = other
lesser_of (Some least) None = Some least
lesser_of (Some least) (Some other) = Some (min least other)
