-- What a view shows.
use Rattle.std.specs.Prelude.{◌≡◌, ◌≤◌, ℕ, List, [], map, filter, slice_get, Option, Some, Bool, true, All}
use Rattle.std.specs.List.{flat_map}
use Rattle.std.specs.Option.{option_map, option_and_then}
use Rattle.cs_types.specs.declared.Key.{Key}
use Rattle.cs_types.specs.declared.Value.{Value}
use Rattle.cs_types.specs.Rows.{padded}
use Rattle.cs_model.specs.Changes.{Edit, Table, Change, laid, table}
use Rattle.group_book.specs.Book.{Ending, how_many, is_visible, shows}
use Rattle.group_book.specs.Invariant.{IsSeenAt}
use Rattle.group_view.specs.declared.view.GroupView.{GroupView}
use Rattle.group_view.specs.declared.view.Place.{Place}
use Rattle.group_view.specs.Parts.{Rowed, rowed_in, IsFitting}

-- the entries of the delete buffer
abbrev pub endings_of : List (Key × ℕ) → List Ending
endings_of entries = map (λ (entry : Key × ℕ). record { key = entry.0; end = entry.1 }) entries

abbrev pub buffer_of : GroupView → List Ending
buffer_of view = endings_of view.buffer.value

-- all versions, group by group
abbrev pub rowed_of : GroupView → List Rowed
rowed_of view = flat_map (λ (group : ℕ × _). rowed_in group.1) view.groups

-- the version at a place
abbrev pub version_at : GroupView → Place → Option Rowed
version_at view place = option_and_then (λ (group : ℕ × _). slice_get (rowed_in group.1) place.position) (slice_get view.groups place.group)

abbrev pub is_shown : GroupView → ℕ → Rowed → Bool
is_shown view s rowed = is_visible (buffer_of view) s rowed.version

-- the versions that are visible at s
abbrev pub shown : GroupView → ℕ → List Rowed
shown view s = filter (is_shown view s) (rowed_of view)

-- at the position stands a version of the key that is visible at s
abbrev pub ShowsAt : List Ending → Key → ℕ → List Rowed → ℕ → Type 0
ShowsAt buffer key s versions position = option_map (λ rowed. shows buffer key s rowed.version) (slice_get versions position) ≡ Some true

-- at no position does one
abbrev pub HidesAll : List Ending → Key → ℕ → List Rowed → Type 0
HidesAll buffer key s versions = (position : ℕ) → ShowsAt buffer key s versions position → ⊥

-- at the place stands a version of the key that is visible at s
abbrev pub Shows : GroupView → Key → ℕ → Place → Type 0
Shows view key s place = option_map (λ rowed. shows (buffer_of view) key s rowed.version) (version_at view place) ≡ Some true

-- at no place does one
abbrev pub HidesEach : GroupView → Key → ℕ → Type 0
HidesEach view key s = (place : Place) → Shows view key s place → ⊥

-- the row of each visible version by key, with so many cells
abbrev pub shown_edit : ℕ → Rowed → Edit
shown_edit width rowed = (rowed.version.key, Some (padded width rowed.row))

abbrev pub shown_table : ℕ → GroupView → ℕ → Table
shown_table width view s = laid [] (map (shown_edit width) (shown view s))

-- rows of a table with so many cells
abbrev pub padded_table : ℕ → Table → Table
padded_table width rows = map (λ (entry : Key × List Value). (entry.0, padded width entry.1)) rows

-- what any view keeps: a bitmap fits its group; its floor is at most its clock; and from the floor to the clock no key has two visible versions
pub record IsView (view : GroupView) : Type 0 where
  pub fitting : All (λ (group : ℕ × _). IsFitting group.1) view.groups
  pub within : view.floor ≤ view.clock
  pub once : (key : Key) (s : ℕ) → view.floor ≤ s → s ≤ view.clock → how_many (λ (rowed : Rowed). shows (buffer_of view) key s rowed.version) (rowed_of view) ≤ 1

-- the view shows the tables of these changes, for each snapshot from its floor to its clock; and each visible version stems
-- from its key's last change in that table, with that change's number as its begin, or both are at most the floor
pub record ShowsTables (width : ℕ) (view : GroupView) (changes : List Change) : Type 0 where
  pub tables : (s : ℕ) → view.floor ≤ s → s ≤ view.clock → shown_table width view s ≡ padded_table width (table changes s)
  pub begins : (s : ℕ) → view.floor ≤ s → s ≤ view.clock → All (λ (rowed : Rowed). IsSeenAt changes view.floor s rowed.version) (shown view s)
