-- What a new group keeps of the versions that a claim lends.
use Rattle.std.specs.Prelude.{◌≡◌, ℕ, pos, ◌+◌, ◌<◌, List, [], ◌∷◌, ◌++◌, map, filter, length, slice_index, slice_index_or, not, Bool, is_some, if◌then◌else◌, Option, None, Some, All, Contains}
use Rattle.delete_bitmap.specs.declared.MarkedEnd.{MarkedEnd}
use Rattle.delete_bitmap.specs.declared.MarkedEnd.TheVariants.{Stamped}
use Rattle.delete_bitmap.specs.Marks.{end_at}
use Rattle.row_group.specs.Rows.{PackedRow, padded_row}
use Rattle.group_book.specs.Book.{End, Version, Ending, has_ended, is_buffered}
use Rattle.group_book.specs.Book.End.{At, Plain}
use Rattle.group_view.specs.Parts.{Rowed}
use Rattle.tuple_mover.specs.declared.kept.Kept.{Kept}

-- the version had ended by the floor: by its recorded end or, where it has none, by an entry of the buffer
abbrev pub is_left_out : ℕ → List Ending → Version → Bool
is_left_out floor buffer version = if is_some version.end then has_ended floor version.end else is_buffered buffer version.key version.begin floor

abbrev pub kept_of : ℕ → List Ending → List Rowed → List Rowed
kept_of floor buffer rowed = filter (λ (version : Rowed). not (is_left_out floor buffer version.version)) rowed

-- the version at a position
abbrev pub rowed_at : List Rowed → ℕ → Rowed
rowed_at rowed position = slice_index_or rowed position (record { version = record { key = record { 0 = pos 0 }; begin = 0; end = None }; row = [] })

-- these versions stand at the positions, in their order
pub record StandIn (rowed kept : List Rowed) (positions : List ℕ) : Type 0 where
  pub within : All (λ position. position < length rowed) positions
  pub are : map (rowed_at rowed) positions ≡ kept

-- a version's row on the way to a group of so many columns
abbrev pub packed_row : ℕ → Rowed → PackedRow
packed_row width rowed = padded_row width rowed.row rowed.version.begin

-- the number of a recorded end; a plain one has none
abbrev pub number_of : Option End → Option ℕ
number_of None = None
number_of (Some (At end)) = Some end
number_of (Some Plain) = None

-- the number of an end with the place of its version, where it has one
abbrev pub placed_end : ℕ → Option ℕ → List (ℕ × ℕ)
placed_end place None = []
placed_end place (Some number) = (place, number) ∷ []

-- the numbers of the ends of those versions that have one, each with the version's place; the first version stands at this one
abbrev pub placed_ends : ℕ → List Rowed → List (ℕ × ℕ)
placed_ends place [] = []
placed_ends place (version ∷ rowed) = placed_end place (number_of version.version.end) ++ placed_ends (place + 1) rowed

-- the rows of the versions in so many columns, and the numbers of the ends of those that have one, with their places
pub record HasKept (width : ℕ) (rowed : List Rowed) (kept : Kept) : Type 0 where
  pub columns : kept.packer.width ≡ width
  pub rows : kept.packer.rows ≡ map (packed_row width) rowed
  pub ends : kept.ends.items ≡ placed_ends 0 rowed

-- ---- the new group

-- the rows of a group stand at these positions, a position for each row in their order, and the bitmap has each row's end at its
-- position, and no other end
pub record AreMarkedAt (ends : List (ℕ × ℕ)) (positions : List ℕ) (marks : List (Option MarkedEnd)) : Type 0 where
  pub counted : length marks ≡ length positions
  pub ended : (place number : ℕ) → Contains ends (place, number) → end_at marks (slice_index positions place) ≡ Some (Stamped number)
  pub others : (place : ℕ) → place < length positions → ((number : ℕ) → ¬ Contains ends (place, number)) → end_at marks (slice_index positions place) ≡ None
