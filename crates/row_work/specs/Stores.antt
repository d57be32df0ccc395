-- The versions of a delta store that a statement reads, found by their keys.
use Rattle.std.specs.Prelude.{◌≡◌, ◌≤◌, ◌&&◌, ℕ, suc, List, [], ◌∷◌, map, Bool, true, slice_get, length, Option, Some, if◌then◌else◌}
use Rattle.std.specs.Option.{option_map, option_and_then}
use Rattle.cs_types.specs.declared.Key.{Key}
use Rattle.cs_types.specs.declared.Schema.{Schema}
use Rattle.cs_types.specs.declared.Value.{Value}
use Rattle.cs_types.specs.Keys.{same_key}
use Rattle.cs_types.specs.Rows.{padded}
use Rattle.cs_model.specs.Held.{IsRowAt}
use Rattle.delta_store.specs.Index.{is_between}
use Rattle.group_book.specs.Book.{how_many, shows}
use Rattle.group_view.specs.declared.view.Pinned.{Pinned}
use Rattle.group_view.specs.Parts.{Rowed}
use Rattle.group_view.specs.Views.{buffer_of}
use Rattle.batch_scan.specs.Reads.{is_read}
use Rattle.row_work.specs.declared.bounds.Bounds.{Bounds}
use Rattle.row_work.specs.Reads.{read_row}

-- the version is read, and is of the key
abbrev pub is_read_of : Pinned → Key → Rowed → Bool
is_read_of pinned key rowed = is_read pinned rowed && same_key key rowed.version.key

-- the version is read, and its key is one of these
abbrev pub is_read_within : Pinned → Bounds → Rowed → Bool
is_read_within pinned bounds rowed = is_read pinned rowed && is_between bounds.least bounds.greatest rowed.version.key

-- at the position stands a version that passes the test
abbrev pub PassesAt : (Rowed → Bool) → List Rowed → ℕ → Type 0
PassesAt test versions position = option_map test (slice_get versions position) ≡ Some true

-- of no key does the snapshot see more than one of these versions
abbrev pub IsSeenOnce : Pinned → List Rowed → Type 0
IsSeenOnce pinned versions = (key : Key) → how_many (λ (rowed : Rowed). shows (buffer_of pinned.view) key pinned.snapshot rowed.version) versions ≤ 1

-- the places of the flags that are true, in their order, the first flag's place being n
abbrev pub true_from : ℕ → List Bool → List ℕ
true_from n [] = []
true_from n (flag ∷ flags) = if flag then n ∷ true_from (suc n) flags else true_from (suc n) flags

-- the positions of the versions that pass the test, in their order
abbrev pub positions_of : (Rowed → Bool) → List Rowed → List ℕ
positions_of test versions = true_from 0 (map test versions)

-- the row that is read at a position, by its key
abbrev pub read_at_position : ℕ → Pinned → List Rowed → ℕ → Option (Key × List Value)
read_at_position width pinned versions position = option_and_then (read_row width pinned) (slice_get versions position)

-- each of these versions that is read has a row of the table, in so many cells
abbrev pub AreRowsRead : Schema → Pinned → List Rowed → Type 0
AreRowsRead schema pinned versions =
    (position : ℕ) (rowed : Rowed) → slice_get versions position ≡ Some rowed → is_read pinned rowed ≡ true → IsRowAt schema rowed.version.key (padded (length schema.columns) rowed.row)
