-- The state of the row model, and what a transaction sees.
use Rattle.std.specs.Prelude.{ℕ, List, [], Bool, false, ◌==◌, if◌then◌else◌, Option, None, Some}
use Rattle.cs_types.specs.declared.Schema.{Schema}
use Rattle.cs_model.specs.declared.entry.Bound.{Bound}
use Rattle.cs_model.specs.Changes.{Edit, Table, Change, table, laid}

-- an open transaction: its number, how deep its BEGINs are nested (0 where it is implicit), its snapshot, if it has
-- taken one, and its own writes by key, one for each key
pub record Txn : Type 0 where
  pub number : ℕ
  pub depth : ℕ
  pub snapshot : Option ℕ
  pub own : List Edit

-- a statement that was started and not finished; short says that its Start found no memory, and note is what its Start noted
pub record Half : Type 0 where
  pub bound : Bound
  pub short : Bool
  pub note : ℕ

-- all that replies depend on: the committed changes and the last commit number; by session the open transaction, the
-- half-done statement and the setting of STATISTICS IO; and the next transaction number
pub record State : Type 0 where
  pub changes : List Change
  pub clock : ℕ
  pub txns : ℕ → Option Txn
  pub half : ℕ → Option Half
  pub statistics : ℕ → Bool
  pub next : ℕ

-- nothing is committed, open, half done or set
abbrev pub start : State
start = record { changes = []; clock = 0; txns = λ _. None; half = λ _. None; statistics = λ _. false; next = 1 }

-- what a log begins from: the schema of the table then, and the state before the first entry
pub record Begin : Type 0 where
  pub schema : Schema
  pub state : State

-- a new table
abbrev pub begin_of : Schema → Begin
begin_of schema = record { schema = schema; state = start }

-- the schema of a state that a log leads to: that which it began with, as no statement changes it
abbrev pub schema_now : Begin → State → Schema
schema_now begin m = begin.schema

-- the function with another value at one session
abbrev pub with : {A : Type 0} → (ℕ → A) → ℕ → A → ℕ → A
with f session value s = if s == session then value else f s

abbrev pub txn_set : State → ℕ → Option Txn → State
txn_set m session txn = record m { txns = with m.txns session txn }

abbrev pub half_set : State → ℕ → Option Half → State
half_set m session half = record m { half = with m.half session half }

abbrev pub statistics_set : State → ℕ → Bool → State
statistics_set m session on = record m { statistics = with m.statistics session on }

abbrev pub seen_at : List Change → Option ℕ → List Edit → Table
seen_at changes None own = laid [] own
seen_at changes (Some s) own = laid (table changes s) own

-- what a transaction reads: the table of its snapshot, with its own writes laid over it
abbrev pub seen : List Change → Txn → Table
seen changes txn = seen_at changes txn.snapshot txn.own
