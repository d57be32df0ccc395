-- How many segments a scan of a view reads, and how many it skips.
use Rattle.std.specs.Prelude.{ℕ, List, map, Option}
use Rattle.cs_types.specs.declared.Schema.{Schema}
use Rattle.cs_types.specs.declared.Value.{Value}
use Rattle.cs_model.specs.declared.pred.Pred.{Pred}
use Rattle.cs_model.specs.Scans.{scan_counts}
use Rattle.row_group.specs.Rows.{PackedRow, column_of}
use Rattle.group_view.specs.declared.view.GroupView.{GroupView}
use Rattle.group_view.specs.Parts.{packed_parts, rows_by_id}

-- the packed groups of a view, each by its columns' cells, those of ended versions too
abbrev pub columns_in : GroupView → List (ℕ → List Value)
columns_in view = map (λ (group : ℕ × List PackedRow). column_of group.1) (rows_by_id (packed_parts view.groups))

-- how many of them a condition reads, and how many it skips
abbrev pub counts_in : Schema → GroupView → Option Pred → ℕ × ℕ
counts_in schema view condition = scan_counts schema condition (columns_in view)
