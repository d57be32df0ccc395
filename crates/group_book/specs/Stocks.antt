-- The versions of a book against the committed changes: which change each version stems from, and where its end stands.
use Rattle.std.specs.Prelude.{◌≡◌, ℕ, ◌+◌, ◌<◌, ◌≤◌, ◌⊎◌, ◌&&◌, ◌==◌, List, [], ◌∷◌, Option, None, Some, Bool, true, false, is_some, nat_lt, All, if◌then◌else◌}
use Rattle.std.specs.List.Sorted.{IsStrictlySortedBy, IsNonDecreasingBy}
use Rattle.std.specs.Option.{option_map}
use Rattle.cs_types.specs.declared.Key.{Key}
use Rattle.cs_types.specs.Keys.{same_key}
use Rattle.cs_model.specs.Changes.{Change, last_change}
use Rattle.group_book.specs.Book.{Version, Ending, Book, opened, frozen, how_many}
use Rattle.group_book.specs.Book.End.{At, Plain}
use Rattle.group_book.specs.Commits.{ending_cmp}
use Rattle.group_book.specs.Turns.{lesser, is_number, holds}

-- the committed changes of a state with this clock: their numbers do not fall along the list, and are at most the clock
pub record AreChanges (changes : List Change) (clock : ℕ) : Type 0 where
  pub below : All (λ (change : Change). change.commit ≤ clock) changes
  pub ascend : IsNonDecreasingBy (λ (change : Change). change.commit) changes

-- the number of the key's next change above b
abbrev pub next_change : List Change → Key → ℕ → Option ℕ
next_change [] key b = None
next_change (change ∷ changes) key b =
    if same_key key change.edit.0 && nat_lt b change.commit then lesser change.commit (next_change changes key b) else next_change changes key b

-- s is below the next change, if there is one
abbrev pub is_after : ℕ → Option ℕ → Bool
is_after s None = true
is_after s (Some e) = nat_lt s e

-- the versions of the open store, those of all other groups, and the buffer, wherever the versions stand
pub record Stock : Type 0 where
  pub opened : List Version
  pub frozen : List Version
  pub buffer : List Ending

abbrev pub stock_of : Book → Stock
stock_of book = record { opened = opened book.groups; frozen = frozen book.groups; buffer = book.buffer }

-- ---- which change a version stems from

-- the version stems from a change with a row: the last one of its key that is numbered at most its begin. Its begin is that
-- change's number, or at most the floor
pub record Stems (changes : List Change) (floor : ℕ) (version : Version) : Type 0 where
  pub origin : Change
  pub is_origin : last_change version.key version.begin changes ≡ Some origin
  pub row : is_some origin.edit.1 ≡ true
  pub begin : (version.begin ≡ origin.commit) ⊎ (version.begin ≤ floor)

abbrev pub is_numbered : ℕ → Option Change → Bool
is_numbered c None = false
is_numbered c (Some change) = change.commit == c

-- the version stems from the change of the key with the number c
abbrev pub is_from : List Change → Key → ℕ → Version → Bool
is_from changes key c version = same_key key version.key && is_numbered c (last_change version.key version.begin changes)

-- how many versions stem from it
abbrev pub copies : List Change → Key → ℕ → Stock → ℕ
copies changes key c stock = how_many (is_from changes key c) stock.frozen + how_many (is_from changes key c) stock.opened

-- each version stems from a change, and no two from one. In the open store begins are the changes' own numbers
pub record AreVersions (stock : Stock) (changes : List Change) (floor : ℕ) : Type 0 where
  pub frozen : All (Stems changes floor) stock.frozen
  pub opened : All (Stems changes floor) stock.opened
  pub begins : All (λ (version : Version). is_from changes version.key version.begin version ≡ true) stock.opened
  pub once : (key : Key) (c : ℕ) → copies changes key c stock ≤ 1

-- ---- where its end stands

-- the end of a version outside the open store, whose key changes next at this number: beside it, as the number, or plain, where the
-- number is at most the floor; or as an entry of the buffer. It stands nowhere else, and without a next change there is none
abbrev pub EndFits : List Ending → ℕ → Version → Option ℕ → Type 0
EndFits buffer floor version None = version.end ≡ None
EndFits buffer floor version (Some e) =
    ((version.end ≡ Some (At e)) × (holds buffer version.key e ≡ false))
    ⊎ (((version.end ≡ Some Plain) × (e ≤ floor) × (holds buffer version.key e ≡ false))
    ⊎ ((version.end ≡ None) × (holds buffer version.key e ≡ true)))

-- in the open store ends are numbers
pub record AreEnds (stock : Stock) (changes : List Change) (floor : ℕ) : Type 0 where
  pub frozen : All (λ (version : Version). EndFits stock.buffer floor version (next_change changes version.key version.begin)) stock.frozen
  pub opened : All (λ (version : Version). version.end ≡ option_map At (next_change changes version.key version.begin)) stock.opened

-- ---- the buffer

-- the entry is the next change of the version
abbrev pub is_end_of : List Change → Ending → Version → Bool
is_end_of changes entry version = same_key entry.key version.key && is_number entry.end (next_change changes version.key version.begin)

-- the buffer is strictly in order, and each entry is the next change of exactly one version outside the open store
pub record AreEntries (stock : Stock) (changes : List Change) : Type 0 where
  pub sorted : IsStrictlySortedBy ending_cmp stock.buffer
  pub owned : All (λ (entry : Ending). how_many (is_end_of changes entry) stock.frozen ≡ 1) stock.buffer

-- ---- what is kept

-- a change whose key changes next at this number is still seen by a snapshot from the floor on
abbrev pub IsSeenFrom : ℕ → Option ℕ → Type 0
IsSeenFrom floor None = Unit {0}
IsSeenFrom floor (Some e) = floor < e

-- each change with a row that a snapshot from the floor on can see has its version
abbrev pub AreKept : Stock → List Change → ℕ → Type 0
AreKept stock changes floor =
    All (λ (change : Change). is_some change.edit.1 ≡ true → IsSeenFrom floor (next_change changes change.edit.0 change.commit) → copies changes change.edit.0 change.commit stock ≡ 1) changes

-- all this of one stock
pub record IsStockOf (stock : Stock) (changes : List Change) (floor : ℕ) : Type 0 where
  pub versions : AreVersions stock changes floor
  pub ends : AreEnds stock changes floor
  pub entries : AreEntries stock changes
  pub kept : AreKept stock changes floor
