-- What a statement reads of what is pinned for it.
use Rattle.std.specs.Prelude.{◌≤◌, ◌++◌, ℕ, List, length, map, All, Option, None, Some}
use Rattle.std.specs.List.{filter_map, flat_map}
use Rattle.std.specs.Map.{values_of}
use Rattle.cs_types.specs.declared.Key.{Key}
use Rattle.cs_types.specs.declared.Schema.{Schema}
use Rattle.cs_types.specs.declared.Value.{Value}
use Rattle.cs_types.specs.Schemas.{IsSchema}
use Rattle.cs_model.specs.Changes.{Table, laid}
use Rattle.cs_model.specs.Held.{IsFit, IsFitTable}
use Rattle.edit_laws.specs.Edits.{edits_of}
use Rattle.group_view.specs.declared.parts.GroupPart.{GroupPart}
use Rattle.group_view.specs.declared.view.Pinned.{Pinned}
use Rattle.group_view.specs.Parts.{rowed_in}
use Rattle.group_view.specs.Views.{rowed_of, shown_table, IsView}
use Rattle.batch_scan.specs.declared.shown.Shown.{Shown}
use Rattle.batch_scan.specs.Reads.{is_read, AreShown}
pub use Rattle.batch_scan.specs.Reads.{own_row, read_key, read_row, rowed_at}

-- the table of the snapshot as the view shows it, in so many cells
abbrev pub shown_by : ℕ → Pinned → Table
shown_by width pinned = shown_table width pinned.view pinned.snapshot

-- what a statement reads: the own writes laid over that table
abbrev pub read_by : ℕ → Pinned → Table
read_by width pinned = laid (shown_by width pinned) (edits_of pinned.own)

-- the rows of the view, and those of the own writes, in the order in which they are read
abbrev pub rows_in : ℕ → Pinned → List (Key × List Value)
rows_in width pinned = filter_map (read_row width pinned) (rowed_of pinned.view) ++ filter_map own_row pinned.own

-- the rows that are read of some groups
abbrev pub read_of : ℕ → Pinned → List (ℕ × GroupPart) → List (List Value)
read_of width pinned groups = values_of (filter_map (read_row width pinned) (flat_map (λ (group : ℕ × GroupPart). rowed_in group.1) groups))

-- what is known of a group before its versions are read: of a packed one the positions that are read, of a store nothing
abbrev pub IsKnown : Pinned → ℕ → Option Shown → Type 0
IsKnown pinned group None = Unit {0}
IsKnown pinned group (Some shown) = AreShown (map (is_read pinned) (rowed_at pinned.view group)) shown

-- no key of the view shows twice, and the snapshot is one that the view has
pub record HasSnapshot (pinned : Pinned) : Type 0 where
  pub view : IsView pinned.view
  pub from_floor : pinned.view.floor ≤ pinned.snapshot
  pub to_clock : pinned.snapshot ≤ pinned.view.clock

-- what is pinned may be read: rows of the view and of the own writes fit the table
pub record MayRead (schema : Schema) (pinned : Pinned) : Type 0 where
  pub table : IsSchema schema
  pub snapshot : HasSnapshot pinned
  pub fit : IsFitTable schema (shown_by (length schema.columns) pinned)
  pub own_fit : All (IsFit schema) (edits_of pinned.own)
