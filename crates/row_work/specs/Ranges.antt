-- The rows of a packed group of the view, found by their keys.
use Rattle.std.specs.Prelude.{◌≡◌, ◌≢◌, ◌<◌, ◌≤◌, ℕ, List, length, map, slice_index, All, AllPairs, Contains}
use Rattle.row_group.specs.Groups.{Group, key_at_place, keys_of}
use Rattle.group_view.specs.declared.view.Pinned.{Pinned}
use Rattle.group_view.specs.Parts.{Rowed}
use Rattle.batch_scan.specs.Reads.{is_read, rowed_at}
use Rattle.row_work.specs.declared.bounds.Bounds.{Bounds}
use Rattle.row_work.specs.Bounds.{IsWithin}
use Rattle.row_work.specs.Stores.{PassesAt}

-- the versions of a group of the view are of the keys of a packed group's rows
abbrev pub HasKeysOf : Pinned → ℕ → Group → Type 0
HasKeysOf pinned place group = map (λ (rowed : Rowed). rowed.version.key) (rowed_at pinned.view place) ≡ keys_of group.key group.rows

-- the places from one up to another, among the positions by key, are those of these keys
pub record ArePlacesWithin (group : Group) (bounds : Bounds) (from to : ℕ) : Type 0 where
  pub ordered : from ≤ to
  pub within : to ≤ length group.places
  pub inside : (i : ℕ) → from ≤ i → i < to → IsWithin bounds (key_at_place group i)
  pub every : (i : ℕ) → i < length group.places → IsWithin bounds (key_at_place group i) → (from ≤ i) × (i < to)

-- the version at a position is read, and the position stands at a place from one up to another
pub record IsReadBetween (pinned : Pinned) (place : ℕ) (group : Group) (from to position : ℕ) : Type 0 where
  pub at : ℕ
  pub low : from ≤ at
  pub high : at < to
  pub here : slice_index group.places at ≡ position
  pub read : PassesAt (is_read pinned) (rowed_at pinned.view place) position

-- these are all such positions, each once
pub record AreReadBetween (pinned : Pinned) (place : ℕ) (group : Group) (from to : ℕ) (positions : List ℕ) : Type 0 where
  pub each : All (IsReadBetween pinned place group from to) positions
  pub every : (position : ℕ) → IsReadBetween pinned place group from to position → Contains positions position
  pub once : AllPairs (λ a b. a ≢ b) positions
