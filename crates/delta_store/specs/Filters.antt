-- Which keys a run may have, by marks in slots.
use Rattle.std.specs.Prelude.{◌≡◌, ℕ, ◌%◌, List, length, slice_index_or, Bool, true, false, None}
use Rattle.std.specs.Int.{w64, cast_unsigned}
use Rattle.cs_types.specs.declared.Key.{Key}
use Rattle.delta_store.specs.Index.{place_in}

-- the slot of a key among so many
abbrev pub slot_of : ℕ → Key → ℕ
slot_of slots key = cast_unsigned w64 key.0 % slots

-- the key's slot is marked, or there is no slot
abbrev pub may_have : List Bool → Key → Bool
may_have marks key = slice_index_or marks (slot_of (length marks) key) true

-- only keys that may be there have a place
abbrev pub AreAllAdmitted : List Bool → List (Key × ℕ) → Type 0
AreAllAdmitted marks pairs = (key : Key) → may_have marks key ≡ false → place_in pairs key ≡ None
