-- What walks over the groups of a list have come to.
use Rattle.std.specs.Prelude.{◌≡◌, ◌≤◌, ℕ, ◌+◌, ◌&&◌, List, [], ◌∷◌, map, drop, length, Option, None, Bool, not, nat_le, IfSome}
use Rattle.std.specs.List.{list_any}
use Rattle.std.specs.Option.{option_map, option_and_then}
use Rattle.group_book.specs.Book.{Ending, Claim, Group, frozen_in, is_compressed}
use Rattle.group_book.specs.Turns.{ends, is_claimed, lesser}
use Rattle.group_book.specs.Choices.{first_pair, free_packed, is_settling, lowest, remaining}
use Rattle.group_view.specs.declared.groups.GroupList.{GroupList}
use Rattle.group_view.specs.Books.{book_of, group_of}
use Rattle.group_view.specs.declared.pairs.Half.{Half}
use Rattle.group_view.specs.declared.pairs.Scan.{Scan}

-- the group is COMPRESSED, and no claim has it
abbrev pub is_free_packed : List Claim → Group → Bool
is_free_packed claims group = is_compressed group.content && not (is_claimed claims group)

-- the entry ends a version of the group
abbrev pub ends_in : List Ending → Group → Ending → Bool
ends_in buffer group entry = list_any (ends buffer entry) (frozen_in group.content)

-- a version of the group has an end that a settle makes plain
abbrev pub settles_in : ℕ → Group → Bool
settles_in floor group = list_any (λ version. is_settling floor version.end) (frozen_in group.content)

-- the groups from a place on that are COMPRESSED and that no claim has
abbrev pub packed_from : ℕ → GroupList → List Group
packed_from place list = free_packed (record (book_of list) { groups = map group_of (drop place list.groups.items) })

-- the least number of versions that remain of one of the groups
abbrev pub least_remaining : ℕ → List Group → Option ℕ
least_remaining floor [] = None
least_remaining floor (group ∷ groups) = lesser (remaining floor group) (least_remaining floor groups)

-- what remains of the group fits one group beside so many versions
abbrev pub fits_beside : ℕ → ℕ → ℕ → Group → Bool
fits_beside floor group_rows kept group = nat_le (kept + remaining floor group) group_rows

-- the pair of a group with the first one after it that fits beside it
abbrev pub pair_of : ℕ → ℕ → GroupList → Half → Option (ℕ × ℕ)
pair_of floor group_rows list half = option_map (λ second. (half.id, second)) (lowest (fits_beside floor group_rows half.kept) (packed_from half.next list))

-- a walk back to a place has seen the least number that remains of a group from there on, and the first pair of such groups
pub record IsScanOf (floor group_rows : ℕ) (list : GroupList) (place : ℕ) (scan : Scan) : Type 0 where
  pub least : scan.least ≡ least_remaining floor (packed_from place list)
  pub pair : first_pair floor group_rows (packed_from place list) ≡ option_and_then (pair_of floor group_rows list) scan.half
  pub within : IfSome scan.half (λ half. half.next ≤ length list.groups.items)
