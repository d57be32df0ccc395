-- The changes of large commits, and what is laid over what.
use Rattle.std.specs.Prelude.{◌≡◌, ℕ, ◌≤◌, List, [], ◌∷◌, ◌++◌, map, Option, Some, refl}
use Rattle.std.specs.Coded.{Coded, code_by, coded×, coded_list, coded_ℕ}
use Rattle.std.specs.FinMap as finite
use Rattle.cs_types.specs.declared.Key.{Key}
use Rattle.cs_types.specs.Keys.{key_cmp}
use Rattle.version_store.specs.declared.NewestChange.{NewestChange}
use Rattle.version_store.specs.Newest.{key_code, change_code}

-- the keys of one commit, and its number and transaction
pub record Load : Type 0 where
  pub keys : List Key
  pub change : NewestChange

-- what contracts see of runs: their loads, the earliest first, and how many keys of one more find room without memory
pub record Loads : Type 0 where
  pub loads : List Load
  pub room : ℕ

-- the change of each of its keys
abbrev pub changes_of : Load → List (Key × NewestChange)
changes_of load = map (λ key. (key, load.change)) load.keys

-- the changes of all loads, those of a later one before those of an earlier one
abbrev pub newest_first : List Load → List (Key × NewestChange)
newest_first [] = []
newest_first (load ∷ loads) = newest_first loads ++ changes_of load

-- the first change of the key
abbrev pub found : List (Key × NewestChange) → Key → Option NewestChange
found changes key = finite.find key_cmp key changes

-- a key that both have was not changed later in the older ones
abbrev pub IsOver : List (Key × NewestChange) → List (Key × NewestChange) → Type 0
IsOver newer older = (key : Key) (change other : NewestChange) → found newer key ≡ Some change → found older key ≡ Some other → other.commit ≤ change.commit

-- the changes of later loads lie over those of each
abbrev pub AreInOrder : List Load → Type 0
AreInOrder [] = Unit {0}
AreInOrder (load ∷ loads) = IsOver (newest_first loads) (changes_of load) × AreInOrder loads

-- a run finds no room while a key has a change of its own: that would lie over the run, and hide its newer change
abbrev pub room_under : List (Key × NewestChange) → ℕ → ℕ
room_under [] room = room
room_under (change ∷ changes) room = 0

-- ---- how they are stored

abbrev pub load_code : Coded Load
load_code = code_by (List Key × NewestChange) (coded× (coded_list key_code) change_code) (λ load. (load.keys, load.change)) (λ p. record { keys = p.0; change = p.1 }) (λ _. refl)

abbrev pub loads_code : Coded Loads
loads_code = code_by (List Load × ℕ) (coded× (coded_list load_code) coded_ℕ) (λ runs. (runs.loads, runs.room)) (λ p. record { loads = p.0; room = p.1 }) (λ _. refl)
