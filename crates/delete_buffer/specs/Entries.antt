-- The entries of a delete buffer: keys with the commit numbers at which a version of theirs ends.
use Rattle.std.specs.Prelude.{◌≡◌, ◌≢◌, ◌<◌, ◌≤◌, ℕ, Bool, not, min, List, [], ◌∷◌, length, map, filter, slice_get, slice_index_or, if◌then◌else◌, All, AllPairs, Contains, Option, None, Some}
use Rattle.std.specs.declared.cmp.Ordering.{Ordering}
use Rattle.std.specs.declared.cmp.Ordering.TheVariants.{Less, Greater}
use Rattle.std.specs.List.{list_any}
use Rattle.std.specs.Ordering.{is_eq, is_lt, nat_cmp, ordering_then}
use Rattle.cs_types.specs.declared.Key.{Key}
use Rattle.cs_types.specs.Keys.{key_cmp, same_key}

-- an entry: a key and an end
abbrev pub Entry : Type 0
Entry = Key × ℕ

-- what contracts see of a buffer: its entries, and how many more find room without memory
pub record Room : Type 0 where
  pub entries : List Entry
  pub spare : ℕ

-- entries are ordered by key, those of one key by their ends
abbrev pub entry_cmp : Entry → Entry → Ordering
entry_cmp x y = ordering_then (key_cmp x.0 y.0) (nat_cmp x.1 y.1)

-- each entry comes before all later ones, so no two are alike
abbrev pub AreInOrder : List Entry → Type 0
AreInOrder entries = AllPairs (λ x y. entry_cmp x y ≡ Less) entries

-- each key is smaller than all later ones
abbrev pub Ascend : List Key → Type 0
Ascend keys = AllPairs (λ a b. key_cmp a b ≡ Less) keys

-- an entry of each key, all with one end
abbrev pub ended : List Key → ℕ → List Entry
ended keys end = map (λ key. (key, end)) keys

-- whether the entry is one of these
abbrev pub is_among : List Entry → Entry → Bool
is_among taken x = list_any (λ y. is_eq (entry_cmp x y)) taken

-- the entries that are none of the taken ones
abbrev pub without : List Entry → List Entry → List Entry
without taken entries = filter (λ x. not (is_among taken x)) entries

-- the entries with one more, put before the first that comes after it
abbrev pub placed : Entry → List Entry → List Entry
placed x [] = x ∷ []
placed x (y ∷ entries) = if is_lt (entry_cmp x y) then x ∷ (y ∷ entries) else y ∷ placed x entries

-- the entries of two lists, each in order, as one list in order
abbrev pub merged : List Entry → List Entry → List Entry
merged settled [] = settled
merged settled (x ∷ recent) = placed x (merged settled recent)

-- two lists that are merged: each is in order, and they share no entry
pub record AreParts (settled recent : List Entry) : Type 0 where
  pub settled_in_order : AreInOrder settled
  pub recent_in_order : AreInOrder recent
  pub apart : All (λ x. ¬ (Contains settled x)) recent

-- how an entry stands to this one; where there is none, it is greater
abbrev pub order_of : Entry → Option Entry → Ordering
order_of entry None = Greater
order_of entry (Some x) = entry_cmp x entry

-- the least end of the key above `begin`, none where there is no such end
abbrev pub IsLeastEnd : List Entry → Key → ℕ → Option ℕ → Type 0
IsLeastEnd entries key begin None = All (λ x. x.0 ≡ key → x.1 ≤ begin) entries
IsLeastEnd entries key begin (Some end) = Contains entries (key, end) × (begin < end) × All (λ x. x.0 ≡ key → begin < x.1 → end ≤ x.1) entries

-- the lesser of two ends; where one is not there, the other
abbrev pub lesser : Option ℕ → Option ℕ → Option ℕ
lesser None other = other
lesser (Some end) None = Some end
lesser (Some end) (Some other) = Some (min end other)

-- the place of the first entry after this one: those before it are not greater, and those from it on are
pub record IsFirstPast (entries : List Entry) (entry : Entry) (place : ℕ) : Type 0 where
  pub within : place ≤ length entries
  pub before : (k : ℕ) → k < place → entry_cmp (slice_index_or entries k entry) entry ≢ Greater
  pub after : (k : ℕ) → place ≤ k → k < length entries → entry_cmp (slice_index_or entries k entry) entry ≡ Greater

-- the end of an entry, where it is one of the key
abbrev pub end_of : Key → Option Entry → Option ℕ
end_of key None = None
end_of key (Some x) = if same_key x.0 key then Some x.1 else None

-- the end of the entry at a place, where it is one of the key
abbrev pub end_in : List Entry → ℕ → Key → Option ℕ
end_in entries place key = end_of key (slice_get entries place)
