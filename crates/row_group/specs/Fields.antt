-- How the fields of a packed group show its rows.
use Rattle.std.specs.Prelude.{◌≡◌, ◌≢◌, ◌<◌, ℕ, ◌==◌, List, [], ◌∷◌, length, map, slice_index, All, AllPairs, Option, None, Some, unwrap_or, if◌then◌else◌}
use Rattle.std.specs.List.{range_with_len}
use Rattle.cs_types.specs.declared.Value.{Value}
use Rattle.column_segment.specs.declared.segment.Segment.{Segment}
use Rattle.column_segment.specs.Bodies.{cell_in}
use Rattle.column_segment.specs.Segments.{IsSegmentOf}
use Rattle.row_group.specs.Rows.{PackedRow}
use Rattle.row_group.specs.Orders.{IsOrderOf}
use Rattle.cs_types.specs.Keys.{key_cmp}
use Rattle.row_group.specs.Groups.{keys_of}

-- the begin that stands at a position, if one does
abbrev pub stamp_in : List (ℕ × ℕ) → ℕ → Option ℕ
stamp_in [] position = None
stamp_in (entry ∷ late) position = if entry.0 == position then Some entry.1 else stamp_in late position

-- the begin of a position: its own, or the base
abbrev pub begin_in : List (ℕ × ℕ) → ℕ → ℕ → ℕ
begin_in late base position = unwrap_or (stamp_in late position) base

-- the begins that are not the floor, by position
pub record AreStamps (begins : List ℕ) (floor : ℕ) (late : List (ℕ × ℕ)) : Type 0 where
  pub rising : AllPairs (λ x y. x.0 < y.0) late
  pub own : All (λ entry. (entry.0 < length begins) × (entry.1 ≢ floor)) late
  pub shown : (position : ℕ) → position < length begins → begin_in late floor position ≡ slice_index begins position

-- the cells of a segment
abbrev pub cells_in : Segment → List Value
cells_in segment = map (λ i. cell_in segment.body i) (range_with_len 0 segment.length)

-- the row at a position
abbrev pub shown_row : List Segment → List (ℕ × ℕ) → ℕ → ℕ → PackedRow
shown_row segments late base position =
    record { cells = map (λ segment. cell_in segment.body position) segments; begin = begin_in late base position }

abbrev pub shown_rows : List Segment → List (ℕ × ℕ) → ℕ → ℕ → List PackedRow
shown_rows segments late base count = map (shown_row segments late base) (range_with_len 0 count)

-- the fields agree: each segment is that of its cells, as many as there are rows; begins of their own stand by position
-- and are not the base; and the positions are those by key
pub record AreFields (segments : List Segment) (key count base : ℕ) (late : List (ℕ × ℕ)) (places : List ℕ) : Type 0 where
  pub counted : All (λ segment. segment.length ≡ count) segments
  pub kept : All (λ segment. IsSegmentOf (cells_in segment) segment.length segment.body segment.least segment.greatest segment.nulls) segments
  pub rising : AllPairs (λ x y. x.0 < y.0) late
  pub own : All (λ entry. (entry.0 < count) × (entry.1 ≢ base)) late
  pub key_there : key < length segments
  pub by_key : IsOrderOf key_cmp (keys_of key (shown_rows segments late base count)) places

-- the begin of the entry at a place, if it stands at the position
abbrev pub stamp_of : Option (ℕ × ℕ) → ℕ → Option ℕ
stamp_of None position = None
stamp_of (Some entry) position = if entry.0 == position then Some entry.1 else None
