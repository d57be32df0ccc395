-- The report on segments: what each column of each COMPRESSED group of a view is, as the layout of the group's rows has it.
use Rattle.std.specs.Prelude.{◌≡◌, ℕ, List, [], length, All}
use Rattle.cs_types.specs.declared.Schema.{Schema}
use Rattle.cs_types.specs.Rows.{padded}
use Rattle.cs_types.specs.Schemas.{IsRowOf}
use Rattle.cs_model.specs.declared.entry.Reply.{Reply}
use Rattle.cs_model.specs.declared.entry.Reply.TheVariants.{Done, Affected, Rows, Groups, Segments, Left, Refused}
use Rattle.cs_model.specs.declared.report.SegmentLine.{SegmentLine}
use Rattle.row_group.specs.Rows.{PackedRow}
use Rattle.group_log.specs.Segments.{AreGroupLines, AreSegmentLines}
use Rattle.group_view.specs.declared.parts.GroupPart.{GroupPart}
use Rattle.group_view.specs.declared.parts.GroupPart.TheVariants.{Packed, Store}
use Rattle.group_view.specs.Parts.{packed_parts, rows_by_id, IsPackedGroup}

-- the report is these lines
abbrev pub IsSegmentReport : Schema → List (ℕ × List PackedRow) → Reply → Type 0
IsSegmentReport schema groups Done = ⊥
IsSegmentReport schema groups (Affected count) = ⊥
IsSegmentReport schema groups (Rows rows segments) = ⊥
IsSegmentReport schema groups (Groups lines buffered) = ⊥
IsSegmentReport schema groups (Segments lines) = AreSegmentLines schema groups lines
IsSegmentReport schema groups (Left left) = ⊥
IsSegmentReport schema groups (Refused refusal) = ⊥

-- ---- the groups of a view

-- the lines of a group of a view: a store has none
abbrev pub ArePartLines : ℕ → ℕ × GroupPart → List SegmentLine → Type 0
ArePartLines width (id, Packed packed marks) lines = let group = packed.value in AreGroupLines width (id, group.rows) lines
ArePartLines width (id, Store store) lines = lines ≡ []

-- the COMPRESSED groups by id, each with its rows in order, those of ended versions too
abbrev pub compressed : List (ℕ × GroupPart) → List (ℕ × List PackedRow)
compressed groups = rows_by_id (packed_parts groups)

-- a COMPRESSED group is a packed one of the table
abbrev pub IsPackedPart : Schema → GroupPart → Type 0
IsPackedPart schema (Packed packed marks) = IsPackedGroup schema packed.value
IsPackedPart schema (Store store) = Unit {0}

abbrev pub ArePackedParts : Schema → List (ℕ × GroupPart) → Type 0
ArePackedParts schema groups = All (λ (group : ℕ × GroupPart). IsPackedPart schema group.1) groups

-- in the table's cells each row of the groups fits the table
abbrev pub AreHeld : Schema → List (ℕ × List PackedRow) → Type 0
AreHeld schema groups = All (λ (group : ℕ × List PackedRow). All (λ (row : PackedRow). IsRowOf schema (padded (length schema.columns) row.cells)) group.1) groups
