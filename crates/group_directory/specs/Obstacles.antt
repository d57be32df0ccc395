-- The open transactions as the row model has them, and a change above a snapshot.
use Rattle.std.specs.Prelude.{◌≡◌, ℕ, List, true, false, Option, None, Some}
use Rattle.cs_types.specs.declared.Key.{Key}
use Rattle.cs_model.specs.declared.entry.Refusal.{Refusal}
use Rattle.cs_model.specs.declared.entry.Refusal.TheVariants.{Reading, Valued, Locked, Changed, Duplicate, NoTxn, Memory}
use Rattle.cs_model.specs.Changes.{Change, newest}
use Rattle.cs_model.specs.Obstacles.{is_above, IsChange}
use Rattle.cs_model.specs.State as model
use Rattle.edit_laws.specs.Edits.{edits_of}
use Rattle.txn_table.specs.declared.txn.Txn.{Txn}
use Rattle.txn_table.specs.Txns.{Table, txn_of}

-- the model's transaction
abbrev pub txn_as : Txn → model.Txn
txn_as txn = record { number = txn.number; depth = txn.depth; snapshot = txn.snapshot; own = edits_of txn.own }

abbrev pub txn_in : Option Txn → Option model.Txn
txn_in None = None
txn_in (Some txn) = Some (txn_as txn)

-- the model's transactions, by session
abbrev pub txns_of : Table → ℕ → Option model.Txn
txns_of table session = txn_in (txn_of table session)

-- the key's newest change is above the snapshot, or is not
abbrev pub IsChanged : List Change → ℕ → Key → Option Refusal → Type 0
IsChanged changes s key None = is_above (newest key changes) (Some s) ≡ false
IsChanged changes s key (Some (Changed k txn commit)) = (k ≡ key) × (is_above (newest key changes) (Some s) ≡ true) × IsChange (newest key changes) txn commit
IsChanged changes s key (Some (Reading number at)) = ⊥
IsChanged changes s key (Some (Valued number row column)) = ⊥
IsChanged changes s key (Some (Locked k txn)) = ⊥
IsChanged changes s key (Some (Duplicate k)) = ⊥
IsChanged changes s key (Some (NoTxn number)) = ⊥
IsChanged changes s key (Some Memory) = ⊥
