-- What a commit makes of a list of groups, and the room that it takes first.
use Rattle.std.specs.Prelude.{◌≡◌, ◌≤◌, ◌<◌, ◌+◌, ◌-◌, ◌^◌, ℕ, zero, suc, min, max, not, List, [], ◌∷◌, ◌++◌, map, filter, length, replicate, Option, None, Some, All}
use Rattle.std.specs.declared.alloc.Global.{Global}
use Rattle.std.specs.declared.sync.Arc.{Arc}
use Rattle.cs_types.specs.declared.Key.{Key}
use Rattle.cs_types.specs.declared.Value.{Value}
use Rattle.row_group.specs.declared.packed.Packed.{Packed}
use Rattle.row_group.specs.Groups.{begun_at}
use Rattle.delete_bitmap.specs.declared.Marks.{Marks}
use Rattle.delta_store.specs.Versions.{Store, IsReady}
use Rattle.group_book.specs.Book as book
use Rattle.group_book.specs.Book.{Content, Book, opened}
use Rattle.group_book.specs.Book.{Content as content}
use Rattle.group_book.specs.Commits.{has_live, with_version, after_ends, after_loads, after_rest}
use Rattle.group_book.specs.Book.{Version}
use Rattle.group_view.specs.declared.groups.GroupContent.{GroupContent}
use Rattle.group_view.specs.declared.groups.GroupContent.TheVariants.{Opened, Closed, Compressed, Invisible, Tombstone}
use Rattle.group_view.specs.declared.groups.Group.{Group}
use Rattle.group_view.specs.declared.groups.GroupList.{GroupList}
use Rattle.group_view.specs.declared.claim.Parcel.{Parcel}
use Rattle.group_view.specs.Parts.{Rowed}
use Rattle.group_view.specs.Lists.{packed_in}
use Rattle.group_view.specs.Parcels.{keys_in, packed_keys}
use Rattle.group_view.specs.Books.{rowed_in_content, group_of}

-- ---- rows

-- what no end changes of a version: its key, its begin and its row
pub record Origin : Type 0 where
  pub key : Key
  pub begin : ℕ
  pub row : List Value

abbrev pub origin_of : Rowed → Origin
origin_of rowed = record { key = rowed.version.key; begin = rowed.version.begin; row = rowed.row }

-- those of the versions of all groups
abbrev pub origins : List Group → List Origin
origins [] = []
origins (group ∷ groups) = map origin_of (rowed_in_content group.content) ++ origins groups

-- those that a commit of the number c makes of rows with their keys
abbrev pub new_origin : ℕ → Key × List Value → Origin
new_origin c entry = record { key = entry.0; begin = c; row = entry.1 }

-- ---- room

-- the book with the version in the open store
abbrev pub put_in : ℕ → Version → Book → Book
put_in group_rows version whole = record whole { groups = map (λ (group : book.Group). record group { content = with_version group_rows version group.content }) whole.groups }

-- how many more rows the content takes before it is closed: an open store at least one
abbrev pub places_in : ℕ → Content → ℕ
places_in group_rows (content.Opened versions) = max 1 (group_rows - length versions)
places_in group_rows (content.Closed versions) = 0
places_in group_rows (content.Compressed versions) = 0
places_in group_rows content.Invisible = 0
places_in group_rows (content.Tombstone versions ends) = 0

abbrev pub places : ℕ → List book.Group → ℕ
places group_rows [] = 0
places group_rows (group ∷ groups) = places_in group_rows group.content + places group_rows groups

-- how many stores are opened for so many rows, where an open store still takes `free` of them
abbrev pub stores_opened : ℕ → ℕ → ℕ → ℕ
stores_opened group_rows free zero = 0
stores_opened group_rows zero (suc rows) = 1 + stores_opened group_rows (group_rows - 1) rows
stores_opened group_rows (suc free) (suc rows) = stores_opened group_rows free rows

-- the content is an open store that finds room for so many versions without memory
abbrev pub HasRoomFor : ℕ → GroupContent → Type 0
HasRoomFor rows (Opened store) = rows ≤ store.spare
HasRoomFor rows (Closed store) = ⊥
HasRoomFor rows (Compressed packed marks) = ⊥
HasRoomFor rows Invisible = ⊥
HasRoomFor rows (Tombstone total deleted) = ⊥

-- an open store finds room for so many versions, or for as many as it takes
abbrev pub IsRoomy : ℕ → ℕ → GroupContent → Type 0
IsRoomy group_rows rows (Opened store) = min rows (max 1 (group_rows - length store.versions)) ≤ store.spare
IsRoomy group_rows rows (Closed store) = Unit {0}
IsRoomy group_rows rows (Compressed packed marks) = Unit {0}
IsRoomy group_rows rows Invisible = Unit {0}
IsRoomy group_rows rows (Tombstone total deleted) = Unit {0}

-- so many rows go into the open store, and into stores of the pool, which become open one after the other, without memory, once
-- so many direct groups stand there
pub record HasRoom (group_rows rows loads : ℕ) (list : GroupList) (pool : List Store) : Type 0 where
  pub opened : All (λ (group : Group). IsRoomy group_rows rows group.content) list.groups.items
  pub stores : All (λ (store : Store). (store.versions ≡ []) × (min rows group_rows ≤ store.spare)) pool
  pub enough : stores_opened group_rows (places group_rows (map group_of list.groups.items)) rows ≤ length pool
  pub groups : length list.groups.items + loads + stores_opened group_rows (places group_rows (map group_of list.groups.items)) rows ≤ list.groups.room
  pub ids : list.next + loads + stores_opened group_rows (places group_rows (map group_of list.groups.items)) rows < 2 ^ 64

-- where no store is open, one may be opened without memory
abbrev pub IsReadyToOpen : GroupList → List Store → Option ℕ → Type 0
IsReadyToOpen list pool None = (0 < length pool) × (length list.groups.items < list.groups.room) × (list.next + 1 < 2 ^ 64)
IsReadyToOpen list pool (Some at) = Unit {0}

-- an open store may end its live versions of these keys
abbrev pub IsReadyFor : List Key → GroupContent → Type 0
IsReadyFor keys (Opened store) = All (IsReady store) keys
IsReadyFor keys (Closed store) = Unit {0}
IsReadyFor keys (Compressed packed marks) = Unit {0}
IsReadyFor keys Invisible = Unit {0}
IsReadyFor keys (Tombstone total deleted) = Unit {0}

-- the keys without a live version
abbrev pub not_live : List Version → List Key → List Key
not_live versions keys = filter (λ key. not (has_live key versions)) keys

-- ---- new groups

-- shares of a packed group, of a commit or of an install, and of its bitmap
abbrev pub NewGroup : Type 0
NewGroup = Arc Packed Global × Arc Marks Global

-- the groups of the list that these become, with ids from this one on
abbrev pub new_groups : ℕ → List NewGroup → List Group
new_groups id [] = []
new_groups id (first ∷ rest) = record { id = id; content = Compressed first.0 first.1 } ∷ new_groups (id + 1) rest

-- no row has ended
abbrev pub IsUnmarked : NewGroup → Type 0
IsUnmarked new = let packed = new.0.value in new.1.value ≡ replicate (length packed.rows) None

-- the group with this begin for each row
abbrev pub rebased : ℕ → Packed → Packed
rebased c group = record group { rows = map (begun_at c) group.rows; base = c }

-- it is the group with this begin, and no row has ended
abbrev pub IsNewGroupOf : ℕ → Packed → NewGroup → Type 0
IsNewGroupOf c group new = (new.0.value ≡ rebased c group) × IsUnmarked new

-- the COMPRESSED groups of a list, without their bitmaps
abbrev pub packed_groups : List Group → List Packed
packed_groups groups = map (λ (entry : ℕ × Packed). entry.1) (packed_in groups)

-- ---- the parcel of a commit

-- a commit of the number c with the rows of a parcel: its groups load directly, each with its rows in its own order
abbrev pub after_parcel : ℕ → ℕ → List Key → Parcel → Book → Book
after_parcel group_rows c replaced parcel whole =
    after_rest group_rows c (keys_in parcel.rest) (after_loads c (map packed_keys parcel.groups) (after_ends replaced c whole))
