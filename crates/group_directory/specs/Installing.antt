-- What an install asks for, and what it makes of a list of groups.
use Rattle.std.specs.Prelude.{◌≡◌, ◌==◌, ◌<◌, ℕ, ◌⊎◌, List, [], ◌∷◌, map, filter, length, not, All, Contains, IsPermutation, Option, None, Some, Bool, false, true, if◌then◌else◌}
use Rattle.std.specs.declared.alloc.Global.{Global}
use Rattle.std.specs.declared.sync.Arc.{Arc}
use Rattle.cs_model.specs.declared.work.Actor.{Actor}
use Rattle.delete_bitmap.specs.declared.Marks.{Marks}
use Rattle.group_book.specs.Book as book
use Rattle.group_book.specs.Book.{Version, Book, how_many, total, deleted}
use Rattle.group_book.specs.Choices.{first_of}
use Rattle.group_book.specs.Turns.{is_fresh, is_id_of, same_actor, made_of, flushed, installed_with, after_flush}
use Rattle.group_view.specs.declared.claim.Claim.{Claim}
use Rattle.group_view.specs.declared.claim.Product.{Product}
use Rattle.group_view.specs.declared.claim.Product.TheVariants.{Group, Marked}
use Rattle.group_view.specs.declared.groups.GroupContent.{GroupContent}
use Rattle.group_view.specs.declared.groups.GroupContent.TheVariants.{Opened, Closed, Compressed, Invisible, Tombstone}
use Rattle.group_view.specs.declared.groups.Group as kept
use Rattle.group_view.specs.declared.parts.GroupPart.{GroupPart}
use Rattle.group_view.specs.declared.groups.GroupList.{GroupList}
use Rattle.group_view.specs.Parts.{Rowed}
use Rattle.group_view.specs.Views.{endings_of, buffer_of, rowed_of}
use Rattle.group_view.specs.Books.{versions_of, content_of, group_of, book_of, StandsAsLent}
use Rattle.group_view.specs.Claims.{lent_entries, rowed_of_packed, IsProductOf}
use Rattle.group_directory.specs.Committing.{NewGroup}

-- the claim that an actor holds
abbrev pub held_by : Actor → List (Actor × Claim) → Option (Actor × Claim)
held_by actor claims = first_of (filter (λ (held : Actor × Claim). same_actor held.0 actor) claims)

-- the ids of the groups of a view
abbrev pub ids_of : List (ℕ × GroupPart) → List ℕ
ids_of parts = map (λ (part : ℕ × _). part.0) parts

-- ---- a new group

-- its versions with their rows; there are none where there is no group
abbrev pub new_rows : Option NewGroup → List Rowed
new_rows None = []
new_rows (Some load) = rowed_of_packed load.0.value load.1.value

abbrev pub new_versions : Option NewGroup → List Version
new_versions load = versions_of (new_rows load)

-- it has a version, and a place in its bitmap for each row
abbrev pub IsFilled : Option NewGroup → Type 0
IsFilled None = Unit {0}
IsFilled (Some load) = let group = load.0.value in (0 < length (rowed_of_packed load.0.value load.1.value)) × (length load.1.value ≡ length group.rows)

-- a source becomes a tombstone with its counts
abbrev pub buried : List ℕ → kept.Group → kept.Group
buried ids group = if is_id_of ids (group_of group) then record group { content = Tombstone (total (content_of group.content)) (deleted (content_of group.content)) } else group

-- the group of the fresh id gets the new group
abbrev pub placed : Option ℕ → NewGroup → kept.Group → kept.Group
placed fresh load group = if is_fresh fresh (group_of group) then record group { content = Compressed load.0 load.1 } else group

-- it stands in its place; where there is none, the place goes
abbrev pub with_new : Option ℕ → Option NewGroup → List kept.Group → List kept.Group
with_new fresh None groups = filter (λ (group : kept.Group). not (is_fresh fresh (group_of group))) groups
with_new fresh (Some load) groups = map (placed fresh load) groups

-- the group that the claim makes is there once, and none of its sources
pub record HasPlace (groups : List book.Group) (claim : book.Claim) : Type 0 where
  pub once : how_many (is_fresh claim.fresh) groups ≡ 1
  pub apart : All (λ (group : book.Group). is_fresh claim.fresh group ≡ true → is_id_of claim.sources group ≡ false) groups

-- the entries of a group that a view shows are old ones, or those of the new group
abbrev pub IsOldOrNew : List (ℕ × List Rowed) → Option ℕ → Option NewGroup → ℕ × List Rowed → Type 0
IsOldOrNew old fresh load entry = Contains old entry ⊎ ((fresh ≡ Some entry.0) × (entry.1 ≡ new_rows load))

-- ---- the bitmaps of a flush

-- the packed group with another bitmap
abbrev pub with_marks : Arc Marks Global → GroupContent → GroupContent
with_marks marks (Opened store) = Opened store
with_marks marks (Closed store) = Closed store
with_marks marks (Compressed packed old) = Compressed packed marks
with_marks marks Invisible = Invisible
with_marks marks (Tombstone total deleted) = Tombstone total deleted

-- bitmaps go to the groups of their ids; both stand by id
abbrev pub marked_by : List (ℕ × Arc Marks Global) → List kept.Group → List kept.Group
marked_by [] groups = groups
marked_by (marks ∷ others) [] = []
marked_by (marks ∷ others) (group ∷ groups) =
    if group.id == marks.0 then record group { content = with_marks marks.1 group.content } ∷ marked_by others groups else group ∷ marked_by (marks ∷ others) groups

-- the first of them is of the group of this id
abbrev pub is_first : ℕ → List (ℕ × Arc Marks Global) → Bool
is_first id [] = false
is_first id (marks ∷ others) = id == marks.0

-- the bitmaps are those of the claim's flush, which ends its versions by the buffer that was lent as by the present one; and they
-- stand as they were lent
pub record MayMark (list : GroupList) (held : Actor × Claim) (marks : List (ℕ × Arc Marks Global)) : Type 0 where
  pub product : IsProductOf held.1 (Marked marks)
  pub entries : endings_of held.1.entries ≡ lent_entries held.1
  pub lent : StandsAsLent (book_of list) held
  pub alike : All (λ (version : Version). flushed (buffer_of held.1.view) (lent_entries held.1) version ≡ flushed (book_of list).buffer (lent_entries held.1) version) (versions_of (rowed_of held.1.view))

-- ---- the book

-- the product's install makes this of the book: of a flush its book, and else that of an install, whose new group has its
-- versions in some order
abbrev pub IsInstalled : book.Claim → Product → Book → Book → Type 0
IsInstalled claim (Group group spent) old new =
    (versions : List Version) × IsPermutation (made_of claim) versions × (new ≡ installed_with versions claim old)
IsInstalled claim (Marked marks) old new = new ≡ after_flush claim old
