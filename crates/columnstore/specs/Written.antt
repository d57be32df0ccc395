-- What writing a text answers.
use Rattle.std.specs.Prelude.{◌≡◌, ◌⊎◌, ℕ, List, Option}
use Rattle.cs_base.specs.Counts.{Rose}
use Rattle.cs_outside.specs.Outside.{Adds, AddsFront}
use Rattle.columnstore.specs.declared.status.Status.{Status}
use Rattle.columnstore.specs.declared.status.Status.TheVariants as status

-- the status after a write that failed: WriteFault, unless memory had given out before
abbrev pub after_fault : Status → Status
after_fault status.Done = status.WriteFault
after_fault status.Usage = status.WriteFault
after_fault status.Script = status.WriteFault
after_fault status.ReadFault = status.WriteFault
after_fault status.WriteFault = status.WriteFault
after_fault status.Memory = status.Memory

-- all was added and the status is the given one; or a prefix was, a fault was counted, and the status is the one after a write that failed
abbrev pub IsWritten : Option (List ℕ) → Option (List ℕ) → ℕ → ℕ → List ℕ → Status → Status → Type 0
IsWritten old new before now text s result =
    ((result ≡ s) × Adds old new text) ⊎ ((result ≡ after_fault s) × AddsFront old new text × Rose before now)
