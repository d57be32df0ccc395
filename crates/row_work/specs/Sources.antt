-- Rows that a statement chooses, by where they stand.
use Rattle.std.specs.Prelude.{ℕ, List, map, Option, Some, slice_get}
use Rattle.std.specs.Option.{option_map, option_and_then}
use Rattle.cs_types.specs.declared.Key.{Key}
use Rattle.cs_types.specs.declared.Value.{Value}
use Rattle.cs_types.specs.Rows.{key_in, padded}
use Rattle.cs_model.specs.Changes.{Edit, Table}
use Rattle.write_set.specs.declared.write.Write.{Write}
use Rattle.row_group.specs.Groups.{Group, row_at}
use Rattle.group_view.specs.declared.view.Pinned.{Pinned}
use Rattle.group_view.specs.Parts.{Rowed}
use Rattle.group_view.specs.Views.{version_at, Shows}
use Rattle.row_work.specs.declared.choose.Chosen.{Chosen}
use Rattle.row_work.specs.declared.choose.Source.{Source}
use Rattle.row_work.specs.declared.choose.Source.TheVariants.{Shown, Own}

-- the row that stands there, if one does
abbrev pub row_of : ℕ → Pinned → Source → Option (List Value)
row_of width pinned (Shown place) = option_map (λ (rowed : Rowed). padded width rowed.row) (version_at pinned.view place)
row_of width pinned (Own i) = option_and_then (λ (write : Write). write.row) (slice_get pinned.own i)

-- the row at a position of a packed group, which stands at a place of the view
abbrev pub chosen_at : ℕ → Group → ℕ → Chosen
chosen_at place group position = record {
  key = key_in group.key (row_at group position).cells;
  source = Shown (record { group = place; position = position });
}

-- a chosen key with the row that stands there
abbrev pub chosen_edit : ℕ → Pinned → Chosen → Edit
chosen_edit width pinned chosen = (chosen.key, row_of width pinned chosen.source)

abbrev pub ShowsKey : Pinned → Key → Source → Type 0
ShowsKey pinned key (Shown place) = Shows pinned.view key pinned.snapshot place
ShowsKey pinned key (Own i) = Unit {0}

-- where it stands in the view, the snapshot sees a version of its key
abbrev pub IsShown : Pinned → Chosen → Type 0
IsShown pinned chosen = ShowsKey pinned chosen.key chosen.source

-- each row at its key
abbrev pub rows_as_edits : Table → List Edit
rows_as_edits rows = map (λ (entry : Key × List Value). (entry.0, Some entry.1)) rows
