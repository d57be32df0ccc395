-- The groups of a list as the book has them, with their rows.
use Rattle.std.specs.Prelude.{ℕ, List, Bool, true, false, map}
use Rattle.std.specs.List.{flat_map}
use Rattle.cs_types.specs.declared.Key.{Key}
use Rattle.cs_types.specs.declared.Value.{Value}
use Rattle.row_group.specs.declared.packed.Packed.{Packed}
use Rattle.group_book.specs.Book as book
use Rattle.group_book.specs.Book.{Content}
use Rattle.group_book.specs.Book.Content.{Opened, Closed, Compressed, Invisible, Tombstone}
use Rattle.group_view.specs.declared.groups.Group.{Group}
use Rattle.group_view.specs.declared.parts.GroupPart.{GroupPart}
use Rattle.group_view.specs.Parts.{Rowed, rowed_in}
use Rattle.group_view.specs.Contents.{group_of, rowed_in_content, listed, packed_of}

-- a group of the book with the versions and rows of its list, and as a packed group where it is COMPRESSED; whether it shares
-- them is not seen
pub record Seen : Type 0 where
  pub group : book.Group
  pub rows : List Rowed
  pub packed : List (ℕ × Packed)

abbrev pub seen : Group → Seen
seen group = record { group = group_of group; rows = rowed_in_content group.content; packed = packed_of group }

-- a view shows groups of this kind
abbrev pub is_shown : Content → Bool
is_shown (Opened versions) = true
is_shown (Closed versions) = true
is_shown (Compressed versions) = true
is_shown Invisible = false
is_shown (Tombstone versions ends) = false

abbrev pub shows : Seen → Bool
shows seen = let group = seen.group in is_shown group.content

-- its id and its rows
abbrev pub entry_of : Seen → ℕ × List Rowed
entry_of seen = let group = seen.group in (group.id, seen.rows)

-- the packed groups among these
abbrev pub packed_seen : List Seen → List (ℕ × Packed)
packed_seen groups = flat_map (λ (group : Seen). group.packed) groups

-- the id and the rows of a part of a view
abbrev pub part_entry : ℕ × GroupPart → ℕ × List Rowed
part_entry part = (part.0, rowed_in part.1)

-- a version's key, begin and row, whatever its end
abbrev pub rooted : Rowed → Key × ℕ × List Value
rooted rowed = let version = rowed.version in (version.key, version.begin, rowed.row)

-- the groups that a view shows, by the keys, begins and rows of their versions
abbrev pub rooted_in : List Group → List (ℕ × List (Key × ℕ × List Value))
rooted_in groups = map (λ (entry : ℕ × List Rowed). (entry.0, map rooted entry.1)) (listed groups)
