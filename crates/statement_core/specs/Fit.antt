-- States whose rows fit the table.
use Rattle.std.specs.Prelude.{◌≡◌, ℕ, All, List, true, Option, None, Some}
use Rattle.cs_types.specs.declared.Schema.{Schema}
use Rattle.cs_model.specs.Changes.{Edit, Change}
use Rattle.cs_model.specs.State.{Txn, Half, State}
use Rattle.cs_model.specs.Held.{IsFit, IsWhole}
use Rattle.cs_model.specs.Kinds.{is_of_table}
use Rattle.cs_model.specs.Ready.{IsReady}

-- the edit fits the table, and its row has a cell for every column
abbrev pub IsFitting : Schema → Edit → Type 0
IsFitting schema edit = IsFit schema edit × IsWhole schema edit

abbrev pub IsFitTxn : Schema → Option Txn → Type 0
IsFitTxn schema None = Unit {0}
IsFitTxn schema (Some txn) = All (IsFitting schema) txn.own

-- what is half done may be bound to the table, and where its Start found no memory it is a statement of the table
abbrev pub IsReadyHalf : Schema → Option Half → Type 0
IsReadyHalf schema None = Unit {0}
IsReadyHalf schema (Some half) = IsReady schema half.bound × (half.short ≡ true → is_of_table half.bound ≡ true)

abbrev pub AreFitting : Schema → List Change → Type 0
AreFitting schema changes = All (λ (change : Change). IsFitting schema change.edit) changes

-- all that is committed, written or half done fits the table
pub record IsFitState (schema : Schema) (m : State) : Type 0 where
  pub changes : AreFitting schema m.changes
  pub txns : (session : ℕ) → IsFitTxn schema (m.txns session)
  pub halves : (session : ℕ) → IsReadyHalf schema (m.half session)
