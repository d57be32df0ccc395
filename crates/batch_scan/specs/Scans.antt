-- What a scan gives: rows, and how many segments it reads and skips.
use Rattle.std.specs.Prelude.{ℕ, Bool, true, false, ◌&&◌, List, map, filter, length, drop, take, slice_index_or, if◌then◌else◌, Option, None, Some}
use Rattle.std.specs.List.{filter_map, flat_map, range_with_len}
use Rattle.std.specs.Map.{values_of}
use Rattle.std.specs.Option.{option_map}
use Rattle.cs_types.specs.declared.Schema.{Schema}
use Rattle.cs_types.specs.declared.Value.{Value}
use Rattle.cs_model.specs.declared.pred.Pred.{Pred}
use Rattle.cs_model.specs.Queries.{keeps}
use Rattle.cs_model.specs.Scans.{is_skipped, scan_counts}
use Rattle.delete_bitmap.specs.declared.MarkedEnd.{MarkedEnd}
use Rattle.row_group.specs.Groups.{Group, row_at}
use Rattle.row_group.specs.Rows.{PackedRow, column_of}
use Rattle.batch_filter.specs.Sieves.{verdicts}
use Rattle.group_view.specs.declared.parts.GroupPart.{GroupPart}
use Rattle.group_view.specs.declared.parts.GroupPart.TheVariants.{Packed, Store}
use Rattle.group_view.specs.declared.view.GroupView.{GroupView}
use Rattle.group_view.specs.declared.view.Pinned.{Pinned}
use Rattle.group_view.specs.Parts.{packed_parts, rowed_in, rows_by_id}
use Rattle.batch_scan.specs.Reads.{own_row, read_flags, read_row}

-- ---- rows

-- the groups of a view at the places from one up to another
abbrev pub groups_between : GroupView → ℕ → ℕ → List (ℕ × GroupPart)
groups_between view from to = drop from (take to view.groups)

-- the rows that a statement reads of these groups, in so many cells, by group and position
abbrev pub rows_shown : ℕ → Pinned → ℕ → ℕ → List (List Value)
rows_shown width pinned from to = values_of (filter_map (read_row width pinned) (flat_map (λ (group : ℕ × GroupPart). rowed_in group.1) (groups_between pinned.view from to)))

-- the rows of the own writes, by key
abbrev pub own_rows : Pinned → List (List Value)
own_rows pinned = values_of (filter_map own_row pinned.own)

-- ---- positions of a packed group

-- the verdicts of a condition over the rows of a packed group, if there is one
abbrev pub verdicts_of : Schema → Option Pred → Group → Option (List Bool)
verdicts_of schema condition group = option_map (λ pred. verdicts schema pred group) condition

-- the verdicts keep a position; where there are none, all are kept
abbrev pub is_kept : Option (List Bool) → ℕ → Bool
is_kept None position = true
is_kept (Some verdicts) position = slice_index_or verdicts position false

-- the positions that are read and kept, in their order
abbrev pub positions_kept : List Bool → Option (List Bool) → List ℕ
positions_kept flags verdicts = filter (λ position. is_kept verdicts position && slice_index_or flags position false) (range_with_len 0 (length flags))

-- the positions of a packed group whose versions a statement reads and whose rows the condition keeps, in their order
abbrev pub kept_positions : Pinned → Schema → Option Pred → Group → List (Option MarkedEnd) → List ℕ
kept_positions pinned schema condition group marks =
    filter (λ position. keeps schema condition (row_at group position).cells && slice_index_or (read_flags pinned group marks) position false) (range_with_len 0 (length group.rows))

-- ---- segments

-- a packed group is read or skipped, and a store is no segment
abbrev pub part_counts : Schema → Option Pred → GroupPart → ℕ × ℕ
part_counts schema condition (Packed packed marks) = let group = packed.value in if is_skipped schema condition (column_of group.rows) then (0, 1) else (1, 0)
part_counts schema condition (Store store) = (0, 0)

-- how many packed groups of some groups a condition reads, and how many it skips
abbrev pub counts_of : Schema → Option Pred → List (ℕ × GroupPart) → ℕ × ℕ
counts_of schema condition groups = scan_counts schema condition (map (λ (group : ℕ × List PackedRow). column_of group.1) (rows_by_id (packed_parts groups)))
