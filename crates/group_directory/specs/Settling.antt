-- What a settle makes of a list of groups.
use Rattle.std.specs.Prelude.{◌≡◌, ℕ, List, [], ◌∷◌, map, filter, not, Option, None, Some}
use Rattle.std.specs.declared.alloc.Global.{Global}
use Rattle.std.specs.declared.sync.Arc.{Arc}
use Rattle.delete_bitmap.specs.declared.Marks.{Marks}
use Rattle.group_book.specs.Book as book
use Rattle.group_book.specs.Book.{Claim, frozen, how_many, is_compressed}
use Rattle.group_book.specs.Choices.{is_settling}
use Rattle.group_book.specs.Turns.{is_claimed, settled_group}
use Rattle.group_view.specs.declared.groups.GroupContent.{GroupContent}
use Rattle.group_view.specs.declared.groups.GroupContent.TheVariants.{Opened, Closed, Compressed, Invisible, Tombstone}
use Rattle.group_view.specs.declared.groups.Group.{Group}
use Rattle.group_view.specs.Books.{group_of, rowed_in_content}
use Rattle.group_view.specs.Lists.{IsFittingContent}
use Rattle.group_view.specs.Seen.{rooted}

-- a bitmap for a packed group, or none where it keeps its own
abbrev pub NewMarks : Type 0
NewMarks = Option (Arc Marks Global)

abbrev pub marked : NewMarks → GroupContent → GroupContent
marked None content = content
marked (Some marks) (Opened store) = Opened store
marked (Some marks) (Closed store) = Closed store
marked (Some marks) (Compressed packed old) = Compressed packed marks
marked (Some marks) Invisible = Invisible
marked (Some marks) (Tombstone total deleted) = Tombstone total deleted

-- the groups with new bitmaps, one after the other
abbrev pub with_marks : List NewMarks → List Group → List Group
with_marks [] groups = groups
with_marks (marks ∷ rest) [] = []
with_marks (marks ∷ rest) (group ∷ groups) = record group { content = marked marks group.content } ∷ with_marks rest groups

-- how many ends become plain in these groups: in the packed ones that no claim has
abbrev pub settling_in : ℕ → List Claim → List book.Group → ℕ
settling_in floor claims groups =
    how_many (λ version. is_settling floor version.end) (frozen (filter (λ (group : book.Group). is_compressed group.content) (filter (λ group. not (is_claimed claims group)) groups)))

-- with the new bitmap the group is settled, and has its rows
pub record IsSettledBy (floor : ℕ) (claims : List Claim) (group : Group) (marks : NewMarks) : Type 0 where
  pub settled : group_of (record group { content = marked marks group.content }) ≡ settled_group floor claims (group_of group)
  pub rows : map rooted (rowed_in_content (marked marks group.content)) ≡ map rooted (rowed_in_content group.content)
  pub fitting : IsFittingContent (marked marks group.content)
