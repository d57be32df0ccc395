-- Writes in the order of their keys.
use Rattle.std.specs.Prelude.{◌≡◌, ◌≢◌, ℕ, ◌<◌, ◌≤◌, List, [], ◌∷◌, length, map, fold, slice_index_or, All, AllPairs, Bool, false, if◌then◌else◌, Option, None, Some}
use Rattle.std.specs.declared.cmp.Ordering.TheVariants.{Less, Greater}
use Rattle.std.specs.List.{HoldsAt}
use Rattle.std.specs.Ordering.{is_eq, is_lt, match_ordering}
use Rattle.cs_types.specs.declared.Key.{Key}
use Rattle.cs_types.specs.Keys.{key_cmp}
use Rattle.write_set.specs.declared.write.Write.{Write}

-- the keys of writes
abbrev pub write_keys : List Write → List Key
write_keys writes = map (λ (write : Write). write.key) writes

-- the keys ascend strictly, so no key stands twice
abbrev pub Ascend : List Write → Type 0
Ascend writes = AllPairs (λ (a b : Write). key_cmp a.key b.key ≡ Less) writes

-- the writes with one more: it takes the place of the key's write, or goes before the first of a greater key
abbrev pub put : List Write → Write → List Write
put [] write = write ∷ []
put (other ∷ writes) write = match_ordering (key_cmp write.key other.key) (write ∷ other ∷ writes) (write ∷ writes) (other ∷ put writes write)

-- the own writes with more laid over them; the last for a key stands
abbrev pub staged : List Write → List Write → List Write
staged own writes = fold put own writes

-- each write at its key
abbrev pub keyed : List Write → List (Key × Write)
keyed writes = map (λ (write : Write). (write.key, write)) writes

-- the first write has a smaller key; the first write is of the key
abbrev pub is_front_below : List Write → Key → Bool
is_front_below [] key = false
is_front_below (write ∷ writes) key = is_lt (key_cmp write.key key)

abbrev pub is_front_of : List Write → Key → Bool
is_front_of [] key = false
is_front_of (write ∷ writes) key = is_eq (key_cmp write.key key)

-- without the first write, where it is of the key
abbrev pub without_front : List Write → Key → List Write
without_front [] key = []
without_front (write ∷ writes) key = if is_eq (key_cmp write.key key) then writes else write ∷ writes

-- the key's write stands at this place
pub record IsFoundAt (writes : List Write) (key : Key) (i : ℕ) : Type 0 where
  pub within : i < length writes
  pub is : HoldsAt (λ (write : Write). write.key ≡ key) writes i

-- the key has no write, and one would go to place i: those before it have smaller keys, and those from it on greater ones
pub record IsGapFor (writes : List Write) (key : Key) (i : ℕ) : Type 0 where
  pub within : i ≤ length writes
  pub before : (k : ℕ) (d : Write) → k < i → key_cmp (slice_index_or writes k d).key key ≡ Less
  pub after : (k : ℕ) (d : Write) → i ≤ k → k < length writes → key_cmp (slice_index_or writes k d).key key ≡ Greater

-- the place of the key's write, none where it has none
abbrev pub IsPlaceOf : List Write → Key → Option ℕ → Type 0
IsPlaceOf writes key None = All (λ (write : Write). write.key ≢ key) writes
IsPlaceOf writes key (Some i) = IsFoundAt writes key i
