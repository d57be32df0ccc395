-- Why a write is refused: its least key that has an obstacle.
use Rattle.std.specs.Prelude.{◌≡◌, ℕ, ◌≢◌, ◌⊎◌, List, map, nat_lt, count_by, All, Contains, Bool, true, false, ◌||◌, ◌&&◌, is_some, Option, None, Some}
use Rattle.std.specs.List.{list_any}
use Rattle.std.specs.declared.cmp.Ordering.TheVariants.{Greater}
use Rattle.std.specs.BTreeMap.{is_at}
use Rattle.std.specs.Map.{lookup}
use Rattle.cs_types.specs.declared.Key.{Key}
use Rattle.cs_model.specs.declared.entry.Bound.{Bound}
use Rattle.cs_model.specs.declared.entry.Refusal.{Refusal}
use Rattle.cs_model.specs.declared.entry.Refusal.TheVariants.{Reading, Valued, Locked, Changed, Duplicate, NoTxn, Memory}
use Rattle.cs_types.specs.Keys.{key_cmp, same_key}
use Rattle.cs_model.specs.Kinds.{is_insert}
use Rattle.cs_model.specs.Changes.{Edit, Table, Change, newest}
use Rattle.cs_model.specs.State.{Txn, State}

-- the keys that a statement writes
abbrev pub keys_of : List Edit → List Key
keys_of edits = map (λ (edit : Edit). edit.0) edits

-- the key has a row
abbrev pub has_row : Table → Key → Bool
has_row table key = is_some (lookup (is_at (key_cmp key)) table)

-- the key stands in the list more than once
abbrev pub stands_twice : List Key → Key → Bool
stands_twice keys key = nat_lt 1 (count_by (λ other. same_key key other) keys)

-- whether an INSERT of these edits would make a key stand twice: it is in what the statement reads, or twice in its list
abbrev pub is_present : Bound → List Edit → Table → Key → Bool
is_present b edits table key = is_insert b && (has_row table key || stands_twice (keys_of edits) key)

-- ---- another transaction's writes

-- the transaction has the key among its own writes
abbrev pub owns : Option Txn → Key → Bool
owns None key = false
owns (Some txn) key = list_any (λ (edit : Edit). same_key key edit.0) txn.own

-- an open transaction with this number has the key among its own writes
abbrev pub IsOwner : Option Txn → Key → ℕ → Type 0
IsOwner None key number = ⊥
IsOwner (Some txn) key number = (owns (Some txn) key ≡ true) × (txn.number ≡ number)

-- the open transaction of another session has the key, and this is its number
abbrev pub IsLocked : (ℕ → Option Txn) → ℕ → Key → ℕ → Type 0
IsLocked txns session key number = (other : ℕ) × (other ≢ session) × IsOwner (txns other) key number

-- no other session's open transaction has the key
abbrev pub IsFree : (ℕ → Option Txn) → ℕ → Key → Type 0
IsFree txns session key = (other : ℕ) → other ≢ session → owns (txns other) key ≡ false

-- ---- changes above the snapshot

-- the change is numbered above the snapshot; every change is, where there is none
abbrev pub is_above : Option Change → Option ℕ → Bool
is_above None snapshot = false
is_above (Some change) None = true
is_above (Some change) (Some s) = nat_lt s change.commit

abbrev pub IsChange : Option Change → ℕ → ℕ → Type 0
IsChange None txn commit = ⊥
IsChange (Some change) txn commit = (change.txn ≡ txn) × (change.commit ≡ commit)

-- ---- obstacles

-- the obstacle of one key to a write of a session whose transaction has this snapshot: the first that applies of 1222, 3960
-- and 2627; or that it has none
abbrev pub IsObstacle : State → ℕ → Option ℕ → (Key → Bool) → Key → Option Refusal → Type 0
IsObstacle m session snapshot present key None =
    IsFree m.txns session key × (is_above (newest key m.changes) snapshot ≡ false) × (present key ≡ false)
IsObstacle m session snapshot present key (Some (Locked k txn)) = (k ≡ key) × IsLocked m.txns session key txn
IsObstacle m session snapshot present key (Some (Changed k txn commit)) =
    (k ≡ key) × IsFree m.txns session key × (is_above (newest key m.changes) snapshot ≡ true) × IsChange (newest key m.changes) txn commit
IsObstacle m session snapshot present key (Some (Duplicate k)) =
    (k ≡ key) × IsFree m.txns session key × (is_above (newest key m.changes) snapshot ≡ false) × (present key ≡ true)
IsObstacle m session snapshot present key (Some (Reading number at)) = ⊥
IsObstacle m session snapshot present key (Some (Valued number row column)) = ⊥
IsObstacle m session snapshot present key (Some (NoTxn number)) = ⊥
IsObstacle m session snapshot present key (Some Memory) = ⊥

-- the refusal is the obstacle of the least of these keys that has one
pub record IsLeastObstacle (Is : Key → Option Refusal → Type 0) (keys : List Key) (refusal : Refusal) : Type 0 where
  pub key : Key
  pub listed : Contains keys key
  pub is : Is key (Some refusal)
  pub least : All (λ other. Is other None ⊎ (key_cmp key other ≢ Greater)) keys

-- how a list of keys is judged: by the obstacle of its least key that has one, or that none has one
abbrev pub IsJudged : (Key → Option Refusal → Type 0) → List Key → Option Refusal → Type 0
IsJudged Is keys None = All (λ key. Is key None) keys
IsJudged Is keys (Some refusal) = IsLeastObstacle Is keys refusal
