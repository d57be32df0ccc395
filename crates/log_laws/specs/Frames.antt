-- What every event does, whatever its kind.
use Rattle.std.specs.Prelude.{◌≡◌, ℕ, ◌+◌, ◌<◌, ◌≤◌, List, ◌++◌, ◌==◌, false, is_some, Option, None, Some}
use Rattle.cs_model.specs.declared.entry.Entry.{Entry}
use Rattle.cs_model.specs.Actors.{actor_of, begun_by}
use Rattle.cs_model.specs.Changes.{Edit}
use Rattle.cs_model.specs.State.{Txn, State}
use Rattle.cs_model.specs.Steps.{is_empty, numbered}

abbrev pub SnapAtMost : Option ℕ → ℕ → Type 0
SnapAtMost None clock = Unit {0}
SnapAtMost (Some s) clock = s ≤ clock

-- the transaction's snapshot, where it has one, is at most the clock
abbrev pub SnapIn : Option Txn → ℕ → Type 0
SnapIn None clock = Unit {0}
SnapIn (Some txn) clock = SnapAtMost txn.snapshot clock

abbrev pub IsPinnedAt : Option ℕ → ℕ → Type 0
IsPinnedAt None clock = ⊥
IsPinnedAt (Some s) clock = s ≤ clock

-- there is a transaction, with a snapshot that is at most the clock
abbrev pub IsPinned : Option Txn → ℕ → Type 0
IsPinned None clock = ⊥
IsPinned (Some txn) clock = IsPinnedAt txn.snapshot clock

-- the transaction's number is below the next one
abbrev pub IsDrawn : Option Txn → ℕ → Type 0
IsDrawn None next = Unit {0}
IsDrawn (Some txn) next = txn.number < next

-- the clock rises by one at most, and by one where these writes are committed
pub record Ticks (clock : ℕ) (own : List Edit) (after : ℕ) : Type 0 where
  pub least : clock ≤ after
  pub most : after ≤ clock + 1
  pub committed : is_empty own ≡ false → after ≡ clock + 1

-- a session's transaction is changed, and perhaps committed: the writes own, of the transaction txn, under the number
-- after the clock; own is empty where nothing is committed
pub record Acts (m : State) (session : ℕ) (after : State) : Type 0 where
  pub half : after.half ≡ m.half
  pub statistics : (i : ℕ) → (i == session) ≡ false → after.statistics i ≡ m.statistics i
  pub txns : (i : ℕ) → (i == session) ≡ false → after.txns i ≡ m.txns i
  pub txn : ℕ
  pub own : List Edit
  pub changes : after.changes ≡ m.changes ++ numbered (m.clock + 1) txn own
  pub clock : Ticks m.clock own after.clock
  pub next : after.next ≤ m.next + 1
  pub later : m.next ≤ after.next
  pub snap : SnapIn (m.txns session) m.clock → SnapIn (after.txns session) m.clock
  pub drawn : IsDrawn (m.txns session) m.next → IsDrawn (after.txns session) after.next
  pub writer : IsDrawn (m.txns session) m.next → is_empty own ≡ false → txn < m.next

-- an event of an actor leaves the others as they are, and only adds to the changes, those of one commit or none
pub record Frames (m : State) (entry : Entry) (after : State) : Type 0 where
  pub half : is_some (after.half (actor_of entry)) ≡ begun_by (is_some (m.half (actor_of entry))) entry
  pub halves : (i : ℕ) → (i == actor_of entry) ≡ false → after.half i ≡ m.half i
  pub statistics : (i : ℕ) → (i == actor_of entry) ≡ false → after.statistics i ≡ m.statistics i
  pub txns : (i : ℕ) → (i == actor_of entry) ≡ false → after.txns i ≡ m.txns i
  pub txn : ℕ
  pub own : List Edit
  pub changes : after.changes ≡ m.changes ++ numbered (m.clock + 1) txn own
  pub clock : Ticks m.clock own after.clock
  pub next : after.next ≤ m.next + 1
  pub later : m.next ≤ after.next
  pub snap : SnapIn (m.txns (actor_of entry)) m.clock → SnapIn (after.txns (actor_of entry)) m.clock
  pub drawn : IsDrawn (m.txns (actor_of entry)) m.next → IsDrawn (after.txns (actor_of entry)) after.next
  pub writer : IsDrawn (m.txns (actor_of entry)) m.next → is_empty own ≡ false → txn < m.next
