-- The bitmap of a source of a flush.
use Rattle.std.specs.Prelude.{◌≡◌, ◌<◌, ◌↔◌, ◌⊎◌, ℕ, true, List, [], ◌∷◌, length, Contains, Option, None, Some, if◌then◌else◌}
use Rattle.std.specs.declared.cmp.Ordering.{Ordering}
use Rattle.std.specs.Ordering.{nat_cmp, ordering_then}
use Rattle.cs_types.specs.declared.Key.{Key}
use Rattle.cs_types.specs.Rows.{key_in}
use Rattle.delete_bitmap.specs.declared.MarkedEnd.{MarkedEnd}
use Rattle.delete_bitmap.specs.declared.MarkedEnd.TheVariants.{Stamped}
use Rattle.delete_bitmap.specs.Marks.{end_at}
use Rattle.row_group.specs.Rows.{PackedRow}
use Rattle.row_group.specs.Groups.{Group, row_at}
use Rattle.group_book.specs.Book.{Ending}
use Rattle.group_book.specs.Turns.{least_entry, unless_ended, holds}
use Rattle.group_view.specs.Parts.{end_of_mark}

-- the recorded end, with this number where its entry is one of these
abbrev pub mark_in : Option ℕ → List Ending → Key → Option MarkedEnd → Option MarkedEnd
mark_in None lent key mark = mark
mark_in (Some end) lent key mark = if holds lent key end then Some (Stamped end) else mark

-- the recorded end of a version, with the number of the entry that ends it, where that is one of these
abbrev pub next_mark : List Ending → List Ending → Key → ℕ → Option MarkedEnd → Option MarkedEnd
next_mark buffer lent key begin mark = mark_in (unless_ended (end_of_mark mark) (least_entry buffer key begin)) lent key mark

-- those of the rows of a packed group, by position
abbrev pub next_marks : List Ending → List Ending → ℕ → List PackedRow → List (Option MarkedEnd) → List (Option MarkedEnd)
next_marks buffer lent key [] marks = marks
next_marks buffer lent key (row ∷ rows) [] = []
next_marks buffer lent key (row ∷ rows) (mark ∷ marks) = next_mark buffer lent (key_in key row.cells) row.begin mark ∷ next_marks buffer lent key rows marks

-- these entries end the version at this position, which has no recorded end, at this number
abbrev pub IsEndedBy : List Ending → List Ending → Group → List (Option MarkedEnd) → ℕ × ℕ → Type 0
IsEndedBy buffer lent group marks place =
    let row : PackedRow = row_at group place.0 in
    let key : Key = key_in group.key row.cells in
    (place.0 < length group.rows) × (end_at marks place.0 ≡ None) × (least_entry buffer key row.begin ≡ Some place.1) × (holds lent key place.1 ≡ true)

-- the positions with their numbers are the old ones and those of this kind
abbrev pub HasMore : (ℕ × ℕ → Type 0) → List (ℕ × ℕ) → List (ℕ × ℕ) → Type 0
HasMore kind old new = (place : ℕ × ℕ) → Contains new place ↔ (Contains old place ⊎ kind place)

-- positions with their numbers are ordered by position, those of one position by their numbers
abbrev pub place_cmp : ℕ × ℕ → ℕ × ℕ → Ordering
place_cmp x y = ordering_then (nat_cmp x.0 y.0) (nat_cmp x.1 y.1)
