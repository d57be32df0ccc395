-- How a buffer keeps what it shares.
use Rattle.std.specs.Prelude.{◌≡◌, List, Option, None, Some}
use Rattle.std.specs.declared.alloc.Global.{Global}
use Rattle.std.specs.declared.sync.Arc.{Arc}
use Rattle.std.specs.declared.vec.Vec.{Vec}
use Rattle.delete_buffer.specs.declared.ends.Ends.{Ends}
use Rattle.delete_buffer.specs.Entries.{Entry, AreParts, merged}

-- the copy of the settled entries, where there is one, has them
abbrev pub IsCopyOf : List Entry → Option (Arc (Vec Entry Global) Global) → Type 0
IsCopyOf settled None = Unit {0}
IsCopyOf settled (Some shared) = shared.value.items ≡ settled

-- what is shared, where something is, are the entries
abbrev pub IsSharedOf : List Entry → Option (Arc Ends Global) → Type 0
IsSharedOf entries None = Unit {0}
IsSharedOf entries (Some shown) = shown.value ≡ entries

-- what is kept true: the entries are in two parts; the copy of the settled ones, where there is one, has exactly them, and what is
-- shared of all, where something is, has all
pub record AreUpToDate (settled recent : List Entry) (shared : Option (Arc (Vec Entry Global) Global)) (shown : Option (Arc Ends Global)) : Type 0 where
  pub parts : AreParts settled recent
  pub shared_same : IsCopyOf settled shared
  pub shown_same : IsSharedOf (merged settled recent) shown
