-- Groups as a list keeps them: what the book has of each, and what a view shows.
use Rattle.std.specs.Prelude.{◌≡◌, ◌≢◌, ℕ, List, [], ◌∷◌, map, length, slice_get, All, Option, None, Some, Bool, true, false, if◌then◌else◌}
use Rattle.std.specs.List.{flat_map}
use Rattle.std.specs.Option.{option_map}
use Rattle.row_group.specs.Groups as group
use Rattle.group_book.specs.Book as book
use Rattle.group_book.specs.Book.{Version, Content}
use Rattle.group_book.specs.Book.{Content as made}
use Rattle.group_view.specs.declared.groups.ClosedStore.{ClosedStore}
use Rattle.group_view.specs.declared.groups.ClosedStore.TheVariants.{Own, Shared}
use Rattle.group_view.specs.declared.groups.GroupContent.{GroupContent}
use Rattle.group_view.specs.declared.groups.GroupContent.TheVariants.{Opened, Closed, Compressed, Invisible, Tombstone}
use Rattle.group_view.specs.declared.groups.Group.{Group}
use Rattle.group_view.specs.Parts.{Rowed, packed_versions, stored_versions}

-- versions without their rows
abbrev pub versions_of : List Rowed → List Version
versions_of rowed = map (λ (version : Rowed). version.version) rowed

abbrev pub rowed_in_closed : ClosedStore → List Rowed
rowed_in_closed (Own store) = stored_versions store
rowed_in_closed (Shared store) = stored_versions store.value

-- the versions of a group, none of one that is being made or has gone
abbrev pub rowed_in_content : GroupContent → List Rowed
rowed_in_content (Opened store) = stored_versions store.versions
rowed_in_content (Closed store) = rowed_in_closed store
rowed_in_content (Compressed packed marks) = let group = packed.value in packed_versions group.key group.rows marks.value
rowed_in_content Invisible = []
rowed_in_content (Tombstone total deleted) = []

abbrev pub content_of : GroupContent → Content
content_of (Opened store) = made.Opened (versions_of (rowed_in_content (Opened store)))
content_of (Closed store) = made.Closed (versions_of (rowed_in_content (Closed store)))
content_of (Compressed packed marks) = made.Compressed (versions_of (rowed_in_content (Compressed packed marks)))
content_of Invisible = made.Invisible
content_of (Tombstone total deleted) = made.Tombstone total deleted

abbrev pub group_of : Group → book.Group
group_of group = record { id = group.id; content = content_of group.content }

abbrev pub is_open : GroupContent → Bool
is_open (Opened store) = true
is_open (Closed store) = false
is_open (Compressed packed marks) = false
is_open Invisible = false
is_open (Tombstone total deleted) = false

-- a view shows the group: it is OPEN, CLOSED or COMPRESSED
abbrev pub is_listed : GroupContent → Bool
is_listed (Opened store) = true
is_listed (Closed store) = true
is_listed (Compressed packed marks) = true
is_listed Invisible = false
is_listed (Tombstone total deleted) = false

-- a packed group has a place in its bitmap for each row
abbrev pub IsFittingContent : GroupContent → Type 0
IsFittingContent (Opened store) = Unit {0}
IsFittingContent (Closed store) = Unit {0}
IsFittingContent (Compressed packed marks) = let group = packed.value in length marks.value ≡ length group.rows
IsFittingContent Invisible = Unit {0}
IsFittingContent (Tombstone total deleted) = Unit {0}

-- the groups that a view shows, with their versions and rows
abbrev pub listed : List Group → List (ℕ × List Rowed)
listed [] = []
listed (group ∷ groups) =
    if is_listed group.content then (group.id, rowed_in_content group.content) ∷ listed groups else listed groups

abbrev pub packed_content : ℕ → GroupContent → List (ℕ × group.Group)
packed_content id (Opened store) = []
packed_content id (Closed store) = []
packed_content id (Compressed packed marks) = (id, packed.value) ∷ []
packed_content id Invisible = []
packed_content id (Tombstone total deleted) = []

-- a COMPRESSED group by id, without its bitmap, and nothing of any other
abbrev pub packed_of : Group → List (ℕ × group.Group)
packed_of group = packed_content group.id group.content

-- the COMPRESSED groups
abbrev pub packed_in : List Group → List (ℕ × group.Group)
packed_in groups = flat_map packed_of groups

-- the open store stands at the place, and nowhere else; without a place there is none
abbrev pub IsOpenAt : List Group → Option ℕ → Type 0
IsOpenAt groups None = All (λ (group : Group). is_open group.content ≡ false) groups
IsOpenAt groups (Some at) =
    (option_map (λ (group : Group). is_open group.content) (slice_get groups at) ≡ Some true)
    × ((other : ℕ) → other ≢ at → (group : Group) → slice_get groups other ≡ Some group → is_open group.content ≡ false)
