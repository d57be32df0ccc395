-- Which entries of the delete buffer are of keys of a packed group.
use Rattle.std.specs.Prelude.{◌≡◌, ◌≢◌, ◌<◌, ◌≤◌, ◌≤ℤ◌, ℕ, List, length, slice_index_or}
use Rattle.cs_types.specs.declared.Key.{Key}
use Rattle.cs_types.specs.Rows.{key_in}
use Rattle.delete_buffer.specs.Entries.{Entry}
use Rattle.row_group.specs.Groups.{Group, row_at}
use Rattle.group_view.specs.declared.span.Span.{Span}

-- the key of the row at a position
abbrev pub key_at : Group → ℕ → Key
key_at group position = key_in group.key (row_at group position).cells

-- the keys of the rows of a group lie from the least to the greatest
abbrev pub AreKeysBetween : Key → Key → Group → Type 0
AreKeysBetween least greatest group = (position : ℕ) → position < length group.rows → (least.0 ≤ℤ (key_at group position).0) × ((key_at group position).0 ≤ℤ greatest.0)

-- no row of the group has the key
abbrev pub HasNoRowOf : Group → Key → Type 0
HasNoRowOf group key = (position : ℕ) → position < length group.rows → key_at group position ≢ key

-- the entries at the places before a span, and those at the places from its end on, are of no row of the group
pub record IsSpanOf (group : Group) (entries : List Entry) (span : Span) : Type 0 where
  pub within : span.to ≤ length entries
  pub before : (i : ℕ) (d : Entry) → i < length entries → i < span.from → HasNoRowOf group (slice_index_or entries i d).0
  pub after : (i : ℕ) (d : Entry) → i < length entries → span.to ≤ i → HasNoRowOf group (slice_index_or entries i d).0
