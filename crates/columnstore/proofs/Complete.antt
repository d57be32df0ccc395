-- Words and a script in their grammars are answered, unless memory or a stream gives out.
use Rattle.std.proofs.Common.{◌≡◌, ℕ, ◌<◌, ◌≤◌, List, ◌++◌, length, ap, sym, subst, ◌∙◌, arith, length-append, inl, inr}
use Rattle.std.specs.Prelude.{Option, None, Some}
use Rattle.std.proofs.lemmas.List.{append-nil}
use Rattle.cs_outside.specs.Outside.{IsAtEnd, Takes}
use Rattle.columnstore.specs.declared.status.Status.{Status}
use Rattle.columnstore.specs.declared.status.Status.TheVariants as status
use Rattle.columnstore.specs.Outcome.{limit, IsDoneOrStopped}
use Rattle.columnstore.specs.Written.{after_fault, IsWritten}

-- no more came than there was
pub came_short : (bytes came : List ℕ) (left : Option (List ℕ)) → Takes (Some bytes) left came → length bytes ≤ limit → limit < length came → ⊥
came_short bytes came None t small long = absurd (cc)
came_short bytes came (Some rest) t small long = let split : bytes ≡ came ++ rest = cc in omega (arith, ap length split, length-append came rest)

-- all came, at the end of the input
pub all_came : (bytes came : List ℕ) (left : Option (List ℕ)) → Takes (Some bytes) left came → IsAtEnd left → bytes ≡ came
all_came bytes came None t end = absurd (cc)
all_came bytes came (Some rest) t end = let split : bytes ≡ came ++ rest = cc in split ∙ ap (λ r. came ++ r) end ∙ append-nil came

-- a write that failed stops it
fault_stops : (s : Status) → IsDoneOrStopped (after_fault s)
fault_stops status.Done = tt
fault_stops status.Usage = tt
fault_stops status.Script = tt
fault_stops status.ReadFault = tt
fault_stops status.WriteFault = tt
fault_stops status.Memory = tt

-- what was done, or stopped, stays so, unless the output gives out
pub finished : (old new : Option (List ℕ)) (before now : ℕ) (text : List ℕ) (s result : Status) → IsWritten old new before now text s result → IsDoneOrStopped s → IsDoneOrStopped result
finished old new before now text s result (inl w) ends = subst IsDoneOrStopped (sym w.0) ends
finished old new before now text s result (inr w) ends = subst IsDoneOrStopped (sym w.0) (fault_stops s)
