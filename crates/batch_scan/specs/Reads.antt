-- Which versions a statement reads.
use Rattle.std.specs.Prelude.{◌≡◌, ◌&&◌, ℕ, Bool, true, false, not, List, [], length, map, All, if◌then◌else◌, Option, None, Some, slice_get, unwrap_or}
use Rattle.std.specs.Option.{option_map}
use Rattle.cs_types.specs.declared.Key.{Key}
use Rattle.cs_types.specs.declared.Value.{Value}
use Rattle.delete_bitmap.specs.declared.MarkedEnd.{MarkedEnd}
use Rattle.write_set.specs.declared.write.Write.{Write}
use Rattle.edit_laws.specs.Edits.{writes_key}
use Rattle.row_group.specs.Groups.{Group}
use Rattle.group_view.specs.declared.view.Pinned.{Pinned}
use Rattle.group_view.specs.declared.view.GroupView.{GroupView}
use Rattle.group_view.specs.Parts.{Rowed, packed_versions, rowed_in}
use Rattle.group_view.specs.Views.{is_shown}
use Rattle.group_view.specs.Laws.{shown_row}
use Rattle.batch_scan.specs.declared.shown.Shown.{Shown}
use Rattle.batch_scan.specs.declared.shown.Shown.TheVariants as shown

-- a version is read where the snapshot sees it and no own write is of its key
abbrev pub is_read : Pinned → Rowed → Bool
is_read pinned rowed = is_shown pinned.view pinned.snapshot rowed && not (writes_key pinned.own rowed.version.key)

-- the key of a version that is read
abbrev pub read_key : Pinned → Rowed → Option Key
read_key pinned rowed = if is_read pinned rowed then Some rowed.version.key else None

-- the row of a version that is read, by its key
abbrev pub read_row : ℕ → Pinned → Rowed → Option (Key × List Value)
read_row width pinned rowed = if is_read pinned rowed then Some (shown_row width rowed) else None

-- the row of an own write that has one, by its key
abbrev pub own_row : Write → Option (Key × List Value)
own_row write = option_map (λ (row : List Value). (write.key, row)) write.row

-- the versions of a group of the view
abbrev pub rowed_at : GroupView → ℕ → List Rowed
rowed_at view group = unwrap_or (option_map (λ (part : ℕ × _). rowed_in part.1) (slice_get view.groups group)) []

-- whether each version of a packed group is read, position by position
abbrev pub read_flags : Pinned → Group → List (Option MarkedEnd) → List Bool
read_flags pinned group marks = map (is_read pinned) (packed_versions group.key group.rows marks)

-- the positions at which the flags are true: every one, none, or these
abbrev pub AreShown : List Bool → Shown → Type 0
AreShown flags shown.Every = All (λ flag. flag ≡ true) flags
AreShown flags shown.Nowhere = All (λ flag. flag ≡ false) flags
AreShown flags (shown.Some positions) = positions ≡ flags

-- a set of positions is one of so many
abbrev pub IsSetOf : ℕ → Shown → Type 0
IsSetOf count shown.Every = Unit {0}
IsSetOf count shown.Nowhere = Unit {0}
IsSetOf count (shown.Some positions) = length positions ≡ count
