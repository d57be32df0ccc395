-- What a commit makes of the book.
use Rattle.std.specs.Prelude.{ℕ, zero, suc, ◌+◌, ◌^◌, ◌&&◌, List, [], ◌∷◌, ◌++◌, map, filter, length, take, drop, Option, None, Some, Bool, true, false, is_none, is_some, not, nat_le, nat_lt, if◌then◌else◌}
use Rattle.std.specs.List.{list_any}
use Rattle.std.specs.declared.cmp.Ordering.{Ordering}
use Rattle.std.specs.Ordering.{nat_cmp, ordering_then, is_lt}
use Rattle.cs_types.specs.declared.Key.{Key}
use Rattle.cs_types.specs.Keys.{key_cmp, same_key}
use Rattle.cs_model.specs.Changes.{Edit, Change, last_change, made}
use Rattle.group_book.specs.Book.{End, Version, Ending, Content, Group, Book, opened, is_opened}
use Rattle.group_book.specs.Book.End.{At}
use Rattle.group_book.specs.Book.Content.{Opened, Closed, Compressed, Invisible, Tombstone}

-- how large groups are: the most versions of one, and from how many rows on a commit loads them directly
pub record Sizes : Type 0 where
  pub group_rows : ℕ
  pub direct_rows : ℕ

-- ---- the keys of a commit

-- the key has a row in the table at the clock
abbrev pub is_in_table : List Change → ℕ → Key → Bool
is_in_table changes clock key = is_some (made (last_change key clock changes))

-- the keys whose row is replaced or deleted
abbrev pub replaced_by : List Change → ℕ → List Edit → List Key
replaced_by changes clock own = filter (is_in_table changes clock) (map (λ (edit : Edit). edit.0) own)

-- the keys that get a row
abbrev pub inserted_by : List Edit → List Key
inserted_by own = map (λ (edit : Edit). edit.0) (filter (λ (edit : Edit). is_some edit.1) own)

-- ---- ends: in the open store, and for versions elsewhere in the buffer

abbrev pub is_one_of : List Key → Key → Bool
is_one_of keys key = list_any (same_key key) keys

-- the version is of the key and has no end
abbrev pub is_live : Key → Version → Bool
is_live key version = same_key key version.key && is_none version.end

abbrev pub has_live : Key → List Version → Bool
has_live key versions = list_any (is_live key) versions

-- the end, where c comes if the test says so and there is none
abbrev pub end_after : Bool → ℕ → Option End → Option End
end_after true c None = Some (At c)
end_after true c (Some end) = Some end
end_after false c end = end

-- the version, with the end c where its key is replaced
abbrev pub ended_by : List Key → ℕ → Version → Version
ended_by replaced c version = record version { end = end_after (is_one_of replaced version.key) c version.end }

-- the content, where the versions of the open store are changed
abbrev pub with_opened : (List Version → List Version) → Content → Content
with_opened f (Opened versions) = Opened (f versions)
with_opened f (Closed versions) = Closed versions
with_opened f (Compressed versions) = Compressed versions
with_opened f Invisible = Invisible
with_opened f (Tombstone versions ends) = Tombstone versions ends

-- entries are ordered by key, those of one key by their numbers
abbrev pub ending_cmp : Ending → Ending → Ordering
ending_cmp x y = ordering_then (key_cmp x.key y.key) (nat_cmp x.end y.end)

-- the entries with one more, in order
abbrev pub with_ending : Ending → List Ending → List Ending
with_ending x [] = x ∷ []
with_ending x (y ∷ ys) = if is_lt (ending_cmp x y) then x ∷ y ∷ ys else y ∷ with_ending x ys

abbrev pub with_endings : List Ending → List Ending → List Ending
with_endings buffer [] = buffer
with_endings buffer (x ∷ xs) = with_ending x (with_endings buffer xs)

-- the entries for the replaced keys that have no live version in the open store
abbrev pub entries_by : List Version → List Key → ℕ → List Ending
entries_by opened replaced c = map (λ key. record { key = key; end = c }) (filter (λ key. not (has_live key opened)) replaced)

abbrev pub after_ends : List Key → ℕ → Book → Book
after_ends replaced c book = record book {
  groups = map (λ (group : Group). record group { content = with_opened (map (ended_by replaced c)) group.content }) book.groups;
  buffer = with_endings book.buffer (entries_by (opened book.groups) replaced c);
}

-- ---- direct loads

-- while at least D rows are left, the first G of them are a part, or all where they are fewer; the rest follows. n is at
-- least the number of rows
abbrev pub direct_parts : ℕ → Sizes → List Key → List (List Key) × List Key
direct_parts zero sizes keys = ([], keys)
direct_parts (suc n) sizes keys =
    if nat_le sizes.direct_rows (length keys) then (
      take sizes.group_rows keys ∷ (direct_parts n sizes (drop sizes.group_rows keys)).0,
      (direct_parts n sizes (drop sizes.group_rows keys)).1,
    )
    else ([], keys)

abbrev pub new_version : ℕ → Key → Version
new_version c key = record { key = key; begin = c; end = None }

-- the book with a new group under the next id
abbrev pub with_group : Content → Book → Book
with_group content book = record book {
  groups = book.groups ++ record { id = book.next; content = content } ∷ [];
  next = book.next + 1;
}

-- a packed group for each part
abbrev pub after_loads : ℕ → List (List Key) → Book → Book
after_loads c [] book = book
after_loads c (part ∷ parts) book = after_loads c parts (with_group (Compressed (map (new_version c) part)) book)

-- ---- the open store

-- a store that has G versions is closed
abbrev pub store_of : ℕ → List Version → Content
store_of group_rows versions = if nat_lt (length versions) group_rows then Opened versions else Closed versions

-- the content, with a version more where it is the open store
abbrev pub with_version : ℕ → Version → Content → Content
with_version group_rows version (Opened versions) = store_of group_rows (versions ++ version ∷ [])
with_version group_rows version (Closed versions) = Closed versions
with_version group_rows version (Compressed versions) = Compressed versions
with_version group_rows version Invisible = Invisible
with_version group_rows version (Tombstone versions ends) = Tombstone versions ends

-- the version goes to the open store; where there is none, one is opened
abbrev pub stored : ℕ → Version → Book → Book
stored group_rows version book =
    if list_any (λ (group : Group). is_opened group.content) book.groups
    then record book { groups = map (λ (group : Group). record group { content = with_version group_rows version group.content }) book.groups }
    else with_group (store_of group_rows (version ∷ [])) book

abbrev pub after_rest : ℕ → ℕ → List Key → Book → Book
after_rest group_rows c [] book = book
after_rest group_rows c (key ∷ keys) book = after_rest group_rows c keys (stored group_rows (new_version c key) book)

-- ---- the commit

-- the rows of these keys get the number c: as many as load directly, by key, and the rest in the open store
abbrev pub after_inserts : Sizes → ℕ → List Key → Book → Book
after_inserts sizes c inserted book =
    after_rest sizes.group_rows c (direct_parts (length inserted) sizes inserted).1 (after_loads c (direct_parts (length inserted) sizes inserted).0 book)

-- no group id is above 2^62: whether the way from one book to the next draws such an id
abbrev pub draws_past : Book → Book → Bool
draws_past before after = nat_lt before.next after.next && nat_lt (2 ^ 62 + 1) after.next

-- a commit of the number c: the ends of what it replaces, direct loads, and the rest into the open store
abbrev pub after_commit : Sizes → ℕ → List Key → List Key → Book → Book
after_commit sizes c replaced inserted book = after_inserts sizes c inserted (after_ends replaced c book)
