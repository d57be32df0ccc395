-- Places by key, as a list of pairs of key and place: the first pair of a key decides.
use Rattle.std.specs.Prelude.{◌≡◌, ℕ, ℤ, pos, ◌<◌, ◌≤◌, ◌<ℤ◌, ◌≤ℤ◌, ◌&&◌, Bool, List, [], ◌∷◌, ◌++◌, length, if◌then◌else◌, slice_index_or, Some, None, Option}
use Rattle.std.specs.Ordering.{is_le}
use Rattle.cs_types.specs.declared.Key.{Key}
use Rattle.cs_types.specs.Keys.{key_cmp, same_key}

-- what contracts see of an index, and of a run of it: its pairs, and how many more find room without memory
pub record Index : Type 0 where
  pub pairs : List (Key × ℕ)
  pub spare : ℕ

-- the place in the first pair of the key
abbrev pub place_in : List (Key × ℕ) → Key → Option ℕ
place_in [] key = None
place_in (x ∷ rest) key = if same_key x.0 key then Some x.1 else place_in rest key

-- the pairs of runs, the oldest run given first: those of newer runs stand first, so the newest run that has a key decides
abbrev pub newest_first : List (List (Key × ℕ)) → List (Key × ℕ)
newest_first [] = []
newest_first (run ∷ newer) = newest_first newer ++ run

abbrev pub no_pair : Key × ℕ
no_pair = (record { 0 = pos 0 }, 0)

-- the number of the key of the pair at place i
abbrev pub key_at : List (Key × ℕ) → ℕ → ℤ
key_at pairs i = let pair = slice_index_or pairs i no_pair in pair.0.0

-- the keys ascend strictly
abbrev pub AreInOrder : List (Key × ℕ) → Type 0
AreInOrder pairs = (i j : ℕ) → i < j → j < length pairs → key_at pairs i <ℤ key_at pairs j

-- the pair at place i is of the key
pub record IsAt (pairs : List (Key × ℕ)) (key : Key) (i : ℕ) : Type 0 where
  pub in_range : i < length pairs
  pub has_key : key_at pairs i ≡ key.0

-- a pair of the key would go to place i: those before it have smaller keys, and those from it on greater ones
pub record IsGapFor (pairs : List (Key × ℕ)) (key : Key) (i : ℕ) : Type 0 where
  pub in_range : i ≤ length pairs
  pub smaller_before : (j : ℕ) → j < i → key_at pairs j <ℤ key.0
  pub greater_after : (j : ℕ) → i ≤ j → j < length pairs → key.0 <ℤ key_at pairs j

-- the key has this place now, and every other key the one that it had
abbrev pub SetsOnly : List (Key × ℕ) → List (Key × ℕ) → Key → ℕ → Type 0
SetsOnly old new key place = (q : Key) → place_in new q ≡ (if same_key key q then Some place else place_in old q)

-- every key has the place that it had
abbrev pub HaveSamePlaces : List (Key × ℕ) → List (Key × ℕ) → Type 0
HaveSamePlaces old new = (q : Key) → place_in new q ≡ place_in old q

-- the key lies from the least to the greatest
abbrev pub is_between : Key → Key → Key → Bool
is_between least greatest key = is_le (key_cmp least key) && is_le (key_cmp key greatest)

-- each key from the least to the greatest has its place, and no other key has one
abbrev pub IsCut : List (Key × ℕ) → Key → Key → List (Key × ℕ) → Type 0
IsCut pairs least greatest cut = (q : Key) → place_in cut q ≡ (if is_between least greatest q then place_in pairs q else None)

-- the keys before place i are those below the key
pub record IsStartOf (pairs : List (Key × ℕ)) (key : Key) (i : ℕ) : Type 0 where
  pub in_range : i ≤ length pairs
  pub below : (j : ℕ) → j < i → key_at pairs j <ℤ key.0
  pub from : (j : ℕ) → i ≤ j → j < length pairs → key.0 ≤ℤ key_at pairs j

-- the keys before place i are those not above the key
pub record IsEndOf (pairs : List (Key × ℕ)) (key : Key) (i : ℕ) : Type 0 where
  pub in_range : i ≤ length pairs
  pub up_to : (j : ℕ) → j < i → key_at pairs j ≤ℤ key.0
  pub above : (j : ℕ) → i ≤ j → j < length pairs → key.0 <ℤ key_at pairs j
