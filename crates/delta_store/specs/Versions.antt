-- Versions of rows with their keys, in the order in which they came.
use Rattle.std.specs.Prelude.{◌≡◌, ◌≢◌, ◌+◌, ◌<◌, ◌≤◌, ℕ, List, length, take, slice_get, slice_index_or, ◌&&◌, Option, Some, None, is_none, is_some, Bool, true, false, if◌then◌else◌, All}
use Rattle.std.specs.List.{AllWithin, HoldsAt, list_any}
use Rattle.std.specs.List.Sorted.{IsNonDecreasingBy}
use Rattle.cs_types.specs.declared.Key.{Key}
use Rattle.cs_types.specs.declared.Value.{Value}
use Rattle.cs_types.specs.Keys.{same_key}
use Rattle.delta_store.specs.declared.version.KeyedVersion.{KeyedVersion}

-- what contracts see of a delta store: its versions, for each version whether it stands in a chunk's own part, which
-- nobody else sees, and how many more versions find room without memory
pub record Store : Type 0 where
  pub versions : List KeyedVersion
  pub own : List Bool
  pub spare : ℕ

-- the version is of the key
abbrev pub is_of : Key → KeyedVersion → Bool
is_of key v = same_key v.key key

-- the version has an end
abbrev pub is_ended : KeyedVersion → Bool
is_ended v = is_some v.version.end

-- the version is of the key and has no end
abbrev pub is_live : Key → KeyedVersion → Bool
is_live key v = is_of key v && is_none v.version.end

-- some version is of the key and has no end
abbrev pub has_live : Key → List KeyedVersion → Bool
has_live key versions = list_any (is_live key) versions

-- a version of the key without an end
abbrev pub new_version : Key → List Value → ℕ → KeyedVersion
new_version key row begin = record { key = key; version = record { row = row; begin = begin; end = None } }

-- the version, with this end where it is of the key and has none
abbrev pub ended_at : Key → ℕ → KeyedVersion → KeyedVersion
ended_at key end v =
    record {
      key = v.key;
      version = record { row = v.version.row; begin = v.version.begin; end = if is_live key v then Some end else v.version.end };
    }

-- the key may be ended: its live version, if it has one, stands in a chunk's own part
abbrev pub IsReady : Store → Key → Type 0
IsReady store key =
    (place : ℕ) (v : KeyedVersion)
    → slice_get store.versions place ≡ Some v
    → is_live key v ≡ true
    → slice_index_or store.own place false ≡ true

-- the place of the last version of the key, none where it has no version
abbrev pub IsLastPlace : List KeyedVersion → Key → Option ℕ → Type 0
IsLastPlace versions key None = All (λ v. v.key ≢ key) versions
IsLastPlace versions key (Some place) =
    (place < length versions)
    × HoldsAt (λ v. v.key ≡ key) versions place
    × AllWithin (λ v. v.key ≢ key) versions (place + 1) (length versions)

-- the place of the version before that at place i, of the same key; none where that one is the first of its key
abbrev pub IsEarlier : List KeyedVersion → ℕ → Option ℕ → Type 0
IsEarlier versions i place = (v : KeyedVersion) → slice_get versions i ≡ Some v → IsLastPlace (take i versions) v.key place

-- the version has an end, at most this commit
pub record IsEndedBy (commit : ℕ) (v : KeyedVersion) : Type 0 where
  pub end : ℕ
  pub has : v.version.end ≡ Some end
  pub within : end ≤ commit

-- each version before that at place i, of the same key, has ended by this commit
abbrev pub AreEndedBefore : List KeyedVersion → ℕ → ℕ → Type 0
AreEndedBefore versions i commit =
    (j : ℕ) (v w : KeyedVersion) → j < i → slice_get versions i ≡ Some v → slice_get versions j ≡ Some w → w.key ≡ v.key → IsEndedBy commit w

-- begins don't fall along the versions
abbrev pub AreByBegin : List KeyedVersion → Type 0
AreByBegin versions = IsNonDecreasingBy (λ v. v.version.begin) versions

-- the first place of a version that begins after this commit: those before it don't, and those from it on do
pub record IsFirstAfter (versions : List KeyedVersion) (begin place : ℕ) : Type 0 where
  pub before : AllWithin (λ v. v.version.begin ≤ begin) versions 0 place
  pub after : AllWithin (λ v. begin < v.version.begin) versions place (length versions)
