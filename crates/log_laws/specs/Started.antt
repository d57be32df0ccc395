-- What a session that has begun a statement knows, whatever the others do.
use Rattle.std.specs.Prelude.{◌≡◌, ◌≤◌, ℕ, List, [], map, Bool, true, false, ◌==◌, Option, None, Some}
use Rattle.cs_types.specs.declared.Schema.{Schema}
use Rattle.cs_model.specs.declared.entry.Bound.{Bound}
use Rattle.cs_model.specs.declared.entry.Entry.{Entry}
use Rattle.cs_model.specs.declared.entry.Entry.TheVariants.{Start, Finish, End, Mover}
use Rattle.cs_model.specs.Changes.{Edit, Table, Change, until, laid}
use Rattle.cs_model.specs.Floors.{snapshot_of}
use Rattle.cs_model.specs.State.{Txn, Half, State, Begin, schema_now}
use Rattle.cs_model.specs.Kinds.{is_of_table}
use Rattle.cs_model.specs.Steps.{Legal, started}

-- what the work of a statement stands on: the statement; whether its Start found no memory, what it noted, and whether the
-- transaction is an implicit one; the table's schema at the Start; and, of its transaction, the changes that the snapshot sees, the
-- snapshot and the own writes
pub record Begun : Type 0 where
  pub bound : Bound
  pub short : Bool
  pub note : ℕ
  pub implicit : Bool
  pub schema : Schema
  pub changes : List Change
  pub snapshot : ℕ
  pub own : List Edit

-- the statement, half done
abbrev pub half_by : Begun → Half
half_by begun = record { bound = begun.bound; short = begun.short; note = begun.note }

-- the table of the snapshot; and what the statement reads: the own writes laid over it
abbrev pub snapshot_table : Begun → Table
snapshot_table begun = laid [] (map (λ (change : Change). change.edit) begun.changes)

abbrev pub seen_by : Begun → Table
seen_by begun = laid (snapshot_table begun) begun.own

-- ---- the session's transaction

abbrev pub own_in : Option Txn → List Edit
own_in None = []
own_in (Some txn) = txn.own

-- it ends with its statement
abbrev pub is_implicit : Option Txn → Bool
is_implicit None = false
is_implicit (Some txn) = txn.depth == 0

-- ---- what was begun

-- the transaction has this snapshot, which sees these changes
pub record Sees (m : State) (session : ℕ) (begun : Begun) : Type 0 where
  pub snapshot : snapshot_of (m.txns session) ≡ Some begun.snapshot
  pub taken : begun.snapshot ≤ m.clock
  pub changes : until begun.snapshot m.changes ≡ begun.changes

-- the session has begun this statement, and its work stands on this
pub record Shows (begin : Begin) (m : State) (session : ℕ) (begun : Begun) : Type 0 where
  pub half : m.half session ≡ Some (half_by begun)
  pub schema : begun.schema ≡ schema_now begin m
  pub implicit : begun.implicit ≡ is_implicit (m.txns session)
  pub own : begun.own ≡ own_in (m.txns session)
  pub sees : is_of_table begun.bound ≡ true → begun.short ≡ false → Sees m session begun

-- what a Start gives: the state after it, and what the work of its statement stands on
pub record Starts (begin : Begin) (m : State) (session : ℕ) (begun : Begun) (after : State) : Type 0 where
  pub state : after ≡ started m session begun.bound begun.short
  pub why : begun.short ≡ true → is_of_table begun.bound ≡ true
  pub shows : Shows begin after session begun

-- in the state that the log leads to, the session has begun this statement
abbrev pub IsStarted : Begin → List Entry → ℕ → Begun → Type 0
IsStarted begin log session begun = (m : State) → Legal begin log m → Shows begin m session begun

-- the entry is the Start of this statement in a session
abbrev pub IsStartEntry : ℕ → Bound → Bool → Entry → Type 0
IsStartEntry session b short (Start s bound why) = (s ≡ session) × (bound.value ≡ b) × (why ≡ short)
IsStartEntry session b short (Finish s reply) = ⊥
IsStartEntry session b short (End s) = ⊥
IsStartEntry session b short (Mover actor work) = ⊥
