-- What the writing of a cell, of a row and of all rows answers: what the definition has, or want of memory.
use Rattle.std.specs.Prelude.{◌≡◌, ℕ, ◌+◌, List, Result, Ok, Err}
use Rattle.std.specs.declared.vec.Vec.{Vec}
use Rattle.std.specs.declared.alloc.Global.{Global}
use Rattle.cs_types.specs.declared.Value.{Value}
use Rattle.cs_model.specs.Changes.{Edit}
use Rattle.write_set.specs.declared.write.Write.{Write}
use Rattle.edit_laws.specs.Edits.{edits_of}
use Rattle.cs_model.specs.declared.entry.Refusal.{Refusal}
use Rattle.cs_model.specs.declared.entry.Refusal.TheVariants.{Valued}
use Rattle.row_work.specs.declared.refusal.WriteRefusal.{WriteRefusal}
use Rattle.row_work.specs.declared.refusal.WriteRefusal.TheVariants as refusal

abbrev pub RefusesCell : ℕ → ℕ → Result Value ℕ → WriteRefusal → Type 0
RefusesCell row i wanted (refusal.Value number r column) = (wanted ≡ Err number) × (r ≡ row) × (column ≡ i + 1)
RefusesCell row i wanted refusal.Memory = Unit {0}

-- a cell of a row, in the column with a number from 0
abbrev pub GivesCell : ℕ → ℕ → Result Value ℕ → Result Value WriteRefusal → Type 0
GivesCell row i wanted (Ok v) = wanted ≡ Ok v
GivesCell row i wanted (Err e) = RefusesCell row i wanted e

abbrev pub RefusesRow : {Y : Type 0} → ℕ → Result Y (ℕ × ℕ) → WriteRefusal → Type 0
RefusesRow row wanted (refusal.Value number r column) = (wanted ≡ Err (number, column)) × (r ≡ row)
RefusesRow row wanted refusal.Memory = Unit {0}

-- a row, by its cells or as the write that it is
abbrev pub GivesRow : {Y : Type 0} → ℕ → Result Y (ℕ × ℕ) → Result Y WriteRefusal → Type 0
GivesRow row wanted (Ok one) = wanted ≡ Ok one
GivesRow row wanted (Err e) = RefusesRow row wanted e

abbrev pub RefusesRows : {Y : Type 0} → Result (List Y) Refusal → WriteRefusal → Type 0
RefusesRows wanted (refusal.Value number row column) = wanted ≡ Err (Valued number row column)
RefusesRows wanted refusal.Memory = Unit {0}

-- all rows
abbrev pub GivesRows : {Y : Type 0} → Result (List Y) Refusal → Result (List Y) WriteRefusal → Type 0
GivesRows wanted (Ok rows) = wanted ≡ Ok rows
GivesRows wanted (Err e) = RefusesRows wanted e

-- writes, as the edits that they are
abbrev pub GivesEdits : Result (List Edit) Refusal → Result (List Write) WriteRefusal → Type 0
GivesEdits wanted (Ok writes) = wanted ≡ Ok (edits_of writes)
GivesEdits wanted (Err e) = RefusesRows wanted e

abbrev pub GivesWrites : Result (List Edit) Refusal → Result (Vec Write Global) WriteRefusal → Type 0
GivesWrites wanted (Ok writes) = wanted ≡ Ok (edits_of writes.items)
GivesWrites wanted (Err e) = RefusesRows wanted e
