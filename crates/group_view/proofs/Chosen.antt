-- The groups that a turn may take, by tests of one group at a time.
use Rattle.std.proofs.Common.{◌≡◌, ℕ, ◌+◌, ◌<◌, ◌≤◌, Bool, true, false, ◌&&◌, ◌||◌, leb, List, [], ◌∷◌, ◌++◌, map, filter, length, get_or, take, not, cond, None, Some, refl, sym, ap, ◌∙◌}
use Rattle.std.specs.Prelude.{◌==◌}
use Rattle.std.specs.List.{list_any}
use Rattle.std.specs.Option.{option_map}
use Rattle.std.proofs.lemmas.Bool.{and_from}
use Rattle.std.proofs.lemmas.List.{map-append, take_all, take_more}
use Rattle.std.proofs.lemmas.List.Elements.{filter-append}
use Rattle.std.proofs.lemmas.List.Folds.{list_any-append, list_any_at}
use Rattle.delete_buffer.specs.Entries.{Entry}
use Rattle.cs_model.specs.declared.work.Actor.{Actor}
use Rattle.group_book.specs.Book.{Version, Ending, Claim, Group, Book, frozen, frozen_in, is_compressed}
use Rattle.group_book.specs.Turns.{ends, is_claimed}
use Rattle.group_book.specs.Choices.{first_of, flush_sources, flushable, free, free_packed, lowest}
use Rattle.group_view.specs.declared.claim.Claim.{Claim as Held}
use Rattle.group_view.specs.declared.parts.GroupPart.{GroupPart}
use Rattle.group_view.specs.declared.groups.Group.{Group as Kept}
use Rattle.group_view.specs.declared.groups.GroupList.{GroupList}
use Rattle.group_view.specs.Books.{book_of, claim_of, group_of}
use Rattle.group_view.specs.Views.{endings_of}
use Rattle.group_view.specs.Walks.{ends_in, is_free_packed}
use Rattle.group_view.proofs.Noted.{any_more}
use Rattle.group_view.proofs.Walks.{and_false, and_true, and_turned, or_false, map_same, any_both, any_turned, any-filter, any-map, any_alike, any_done, filter-filter, filter-map, filter_same, first_found, first_none, keeps_one}

-- ---- claims

-- a claim's sources are the groups of its view
pub claimed_as : (claims : List (Actor × Held)) (group : Group) → list_any (λ (held : Actor × Held). list_any (λ (part : ℕ × GroupPart). part.0 == group.id) held.1.view.groups) claims ≡ is_claimed (map claim_of claims) group
claimed_as [] group = refl
claimed_as (held ∷ claims) group = rw (any-map (λ id. id == group.id) (λ (part : ℕ × GroupPart). part.0) held.1.view.groups, claimed_as claims group) refl

-- ---- groups

-- no claim has the group, and it passes
abbrev pub takes : List Claim → (Group → Bool) → Group → Bool
takes claims test group = test group && not (is_claimed claims group)

-- and it is COMPRESSED
abbrev pub takes_packed : List Claim → (Group → Bool) → Group → Bool
takes_packed claims test group = (is_compressed group.content && test group) && not (is_claimed claims group)

module _ (book : Book) (test : Group → Bool) where
  free_kept : filter test (free book) ≡ filter (takes book.claims test) book.groups
  free_kept = filter-filter test (λ group. not (is_claimed book.claims group)) book.groups

  pub lowest_free : lowest test (free book) ≡ option_map (λ (group : Group). group.id) (first_of (filter (takes book.claims test) book.groups))
  lowest_free = ap (λ groups. option_map (λ (group : Group). group.id) (first_of groups)) free_kept

  pub packed_kept : filter test (free_packed book) ≡ filter (takes_packed book.claims test) book.groups
  packed_kept =
      filter-filter test (λ (group : Group). is_compressed group.content) (free book)
      ∙ filter-filter (λ group. test group && is_compressed group.content) (λ group. not (is_claimed book.claims group)) book.groups
      ∙ filter_same _ _ book.groups (λ group. ap (λ t. t && not (is_claimed book.claims group)) (and_turned (test group) (is_compressed group.content)))

  pub lowest_packed : lowest test (free_packed book) ≡ option_map (λ (group : Group). group.id) (first_of (filter (takes_packed book.claims test) book.groups))
  lowest_packed = ap (λ groups. option_map (λ (group : Group). group.id) (first_of groups)) packed_kept

  pub any_in_packed : list_any test (free_packed book) ≡ list_any (takes_packed book.claims test) book.groups
  any_in_packed =
      any-filter test (λ (group : Group). is_compressed group.content) (free book)
      ∙ any-filter (λ group. test group && is_compressed group.content) (λ group. not (is_claimed book.claims group)) book.groups
      ∙ any_alike _ _ book.groups (λ group. ap (λ t. t && not (is_claimed book.claims group)) (and_turned (test group) (is_compressed group.content)))

-- what the test keeps of the groups is what it keeps of them one by one
pub free_packed_is : (book : Book) → free_packed book ≡ filter (is_free_packed book.claims) book.groups
free_packed_is book = filter-filter (λ (group : Group). is_compressed group.content) (λ group. not (is_claimed book.claims group)) book.groups

-- ---- versions

any_frozen : (test : Version → Bool) (groups : List Group) → list_any test (frozen groups) ≡ list_any (λ group. list_any test (frozen_in group.content)) groups
any_frozen test [] = refl
any_frozen test (group ∷ groups) = list_any-append test (frozen_in group.content) (frozen groups) ∙ ap (λ t. list_any test (frozen_in group.content) || t) (any_frozen test groups)

-- a version of a COMPRESSED group that no claim has passes
pub any_packed : (book : Book) (test : Version → Bool) → list_any test (frozen (free_packed book)) ≡ list_any (takes_packed book.claims (λ group. list_any test (frozen_in group.content))) book.groups
any_packed book test = any_frozen test (free_packed book) ∙ any_in_packed book (λ group. list_any test (frozen_in group.content))

-- ---- walks over the groups of a list

module _ (book : Book) (test : Group → Bool) (groups : List Kept) where
  abbrev over : Book
  over = record book { groups = map group_of groups }

  -- the group at a place is the lowest that passes and that no claim has
  pub free_found : (i : ℕ) (group : Kept) → list_any (λ other. takes book.claims test (group_of other)) (take i groups) ≡ false → i < length groups → get_or groups i group ≡ group
      → test (group_of group) ≡ true → is_claimed book.claims (group_of group) ≡ false → lowest test (free over) ≡ Some group.id
  free_found i group none inside at passes unclaimed =
      lowest_free over test ∙ ap (option_map (λ (g : Group). g.id)) (first_found group_of (takes book.claims test) groups i group none inside at (and_from _ _ passes (ap not unclaimed)))

  pub free_none : (i : ℕ) → list_any (λ other. takes book.claims test (group_of other)) (take i groups) ≡ false → length groups ≤ i → lowest test (free over) ≡ None
  free_none i none all = lowest_free over test ∙ ap (option_map (λ (g : Group). g.id)) (first_none group_of (takes book.claims test) groups i none all)

  -- and is COMPRESSED
  pub packed_found : (i : ℕ) (group : Kept) → list_any (λ other. takes_packed book.claims test (group_of other)) (take i groups) ≡ false → i < length groups → get_or groups i group ≡ group
      → (is_compressed (group_of group).content && test (group_of group)) ≡ true → is_claimed book.claims (group_of group) ≡ false → lowest test (free_packed over) ≡ Some group.id
  packed_found i group none inside at passes unclaimed =
      lowest_packed over test ∙ ap (option_map (λ (g : Group). g.id)) (first_found group_of (takes_packed book.claims test) groups i group none inside at (and_from _ _ passes (ap not unclaimed)))

  pub packed_none : (i : ℕ) → list_any (λ other. takes_packed book.claims test (group_of other)) (take i groups) ≡ false → length groups ≤ i → lowest test (free_packed over) ≡ None
  packed_none i none all = lowest_packed over test ∙ ap (option_map (λ (g : Group). g.id)) (first_none group_of (takes_packed book.claims test) groups i none all)

  -- some group does, or none
  pub one_found : (i : ℕ) (group : Kept) → i < length groups → get_or groups i group ≡ group → (is_compressed (group_of group).content && test (group_of group)) ≡ true → is_claimed book.claims (group_of group) ≡ false
      → list_any (takes_packed book.claims test) (map group_of groups) ≡ true
  one_found i group inside at passes unclaimed =
      any-map (takes_packed book.claims test) group_of groups
      ∙ list_any_at (λ other. takes_packed book.claims test (group_of other)) groups i group inside (ap (λ (g : Kept). takes_packed book.claims test (group_of g)) at ∙ and_from _ _ passes (ap not unclaimed))

  pub none_passes : list_any (λ other. takes_packed book.claims test (group_of other)) groups ≡ false → list_any (takes_packed book.claims test) (map group_of groups) ≡ false
  none_passes none = any-map (takes_packed book.claims test) group_of groups ∙ none

  pub none_found : (i : ℕ) → list_any (λ other. takes_packed book.claims test (group_of other)) (take i groups) ≡ false → length groups ≤ i → list_any (takes_packed book.claims test) (map group_of groups) ≡ false
  none_found i none all = none_passes (any_done (λ other. takes_packed book.claims test (group_of other)) groups i none all)

-- ---- flushes

-- an entry ends a version of a COMPRESSED group that no claim has
abbrev pub is_flushed : GroupList → Entry → Bool
is_flushed list entry = list_any (ends (book_of list).buffer (record { key = entry.0; end = entry.1 })) (frozen (free_packed (book_of list)))

-- one of some entries ends a version of the group, which is COMPRESSED and which no claim has
any_within : (c n : Bool) (e : Ending → Bool) (xs : List Ending) → list_any (λ x. (c && e x) && n) xs ≡ ((c && list_any e xs) && n)
any_within true true e xs = any_alike (λ x. e x && true) e xs (λ x. and_true (e x)) ∙ sym (and_true (list_any e xs))
any_within true false e xs = any_alike (λ x. e x && false) (λ x. false) xs (λ x. and_false (e x)) ∙ any_both false e xs ∙ sym (and_false (list_any e xs))
any_within false n e xs = any_both false e xs

-- whether a flush has an entry, group by group
pub flushed_one : (book : Book) → leb 1 (length (flushable book)) ≡ list_any (takes_packed book.claims (λ group. list_any (ends_in book.buffer group) book.buffer)) book.groups
flushed_one book =
    keeps_one (λ entry. list_any (ends book.buffer entry) (frozen (free_packed book))) book.buffer
    ∙ any_alike (λ entry. list_any (ends book.buffer entry) (frozen (free_packed book))) (λ entry. list_any (takes_packed book.claims (λ group. ends_in book.buffer group entry)) book.groups) book.buffer (λ entry. any_packed book (ends book.buffer entry))
    ∙ any_turned (λ entry. takes_packed book.claims (λ group. ends_in book.buffer group entry)) book.buffer book.groups
    ∙ any_alike (λ group. list_any (λ entry. takes_packed book.claims (λ other. ends_in book.buffer other entry) group) book.buffer) (takes_packed book.claims (λ group. list_any (ends_in book.buffer group) book.buffer)) book.groups (λ group.
    any_within (is_compressed group.content) (not (is_claimed book.claims group)) (ends_in book.buffer group) book.buffer)

-- which entries it has, by the list's own
pub flushed_all : (list : GroupList) → endings_of (filter (is_flushed list) list.buffer.entries) ≡ flushable (book_of list)
flushed_all list = sym (filter-map (λ (entry : Ending). list_any (ends (book_of list).buffer entry) (frozen (free_packed (book_of list)))) (λ (entry : Entry). record { key = entry.0; end = entry.1 }) list.buffer.entries)

ids_kept : (q : Group → Bool) (groups : List Kept) → map (λ (group : Group). group.id) (filter q (map group_of groups)) ≡ map (λ (group : Kept). group.id) (filter (λ group. q (group_of group)) groups)
ids_kept q [] = refl
ids_kept q (group ∷ groups) = step (q (group_of group)) (ids_kept q groups)
  where
    step : (t : Bool) → map (λ (g : Group). g.id) (filter q (map group_of groups)) ≡ map (λ (g : Kept). g.id) (filter (λ g. q (group_of g)) groups)
        → map (λ (g : Group). g.id) (cond t (group_of group ∷ filter q (map group_of groups)) (filter q (map group_of groups))) ≡ map (λ (g : Kept). g.id) (cond t (group ∷ filter (λ g. q (group_of g)) groups) (filter (λ g. q (group_of g)) groups))
    step true rest = ap (λ (ids : List ℕ). group.id ∷ ids) rest
    step false rest = rest

-- one group more, which the test keeps or not
pub ids_more : (q : Group → Bool) (groups : List Kept) (n : ℕ) (group : Kept) (t : Bool) → n < length groups → get_or groups n group ≡ group → q (group_of group) ≡ t
    → map (λ (g : Kept). g.id) (filter (λ g. q (group_of g)) (take (n + 1) groups)) ≡ map (λ (g : Kept). g.id) (filter (λ g. q (group_of g)) (take n groups)) ++ cond t (group.id ∷ []) []
ids_more q groups n group t there at is =
    let kept = filter (λ (g : Kept). q (group_of g)) (take n groups) in
    ap (λ (gs : List Kept). map (λ (g : Kept). g.id) (filter (λ g. q (group_of g)) gs)) (take_more groups n group there ∙ ap (λ (g : Kept). take n groups ++ g ∷ []) at)
    ∙ ap (map (λ (g : Kept). g.id)) (filter-append (λ (g : Kept). q (group_of g)) (take n groups) (group ∷ []))
    ∙ map-append (λ (g : Kept). g.id) kept (cond (q (group_of group)) (group ∷ []) [])
    ∙ ap (λ (b : Bool). map (λ (g : Kept). g.id) kept ++ map (λ (g : Kept). g.id) (cond b (group ∷ []) [])) is
    ∙ ap (λ (ids : List ℕ). map (λ (g : Kept). g.id) kept ++ ids) (step t)
  where
    step : (b : Bool) → map (λ (g : Kept). g.id) (cond b (group ∷ []) []) ≡ cond b (group.id ∷ []) []
    step true = refl
    step false = refl

pub sources_kept : (list : GroupList) → flush_sources (book_of list) ≡ map (λ (group : Kept). group.id) (filter (λ group. takes_packed (book_of list).claims (λ other. list_any (ends_in (book_of list).buffer other) (book_of list).buffer) (group_of group)) list.groups.items)
sources_kept list =
    let book = book_of list in
    ap (map (λ (group : Group). group.id)) (packed_kept book (λ group. list_any (ends_in book.buffer group) book.buffer))
    ∙ ids_kept (takes_packed book.claims (λ group. list_any (ends_in book.buffer group) book.buffer)) list.groups.items

-- ---- what a walk over the groups notes of the entries

module _ (claims : List Claim) (buffer : List Ending) (groups : List Kept) where
  -- the entry ends a version of one of the first groups that is COMPRESSED and that no claim has
  abbrev pub noted_by : ℕ → Ending → Bool
  noted_by n entry = list_any (λ group. takes_packed claims (λ other. ends_in buffer other entry) (group_of group)) (take n groups)

  noted_more : (n : ℕ) (group : Kept) → n < length groups → get_or groups n group ≡ group → (entry : Ending) → noted_by (n + 1) entry ≡ (noted_by n entry || takes_packed claims (λ other. ends_in buffer other entry) (group_of group))
  noted_more n group there at entry =
      any_more (λ other. takes_packed claims (λ g. ends_in buffer g entry) (group_of other)) groups n group there
      ∙ ap (λ (g : Kept). noted_by n entry || takes_packed claims (λ other. ends_in buffer other entry) (group_of g)) at

  -- one group more, which a claim has, or none
  pub noted_claimed : (n : ℕ) (group : Kept) → n < length groups → get_or groups n group ≡ group → is_claimed claims (group_of group) ≡ true → map (noted_by n) buffer ≡ map (noted_by (n + 1)) buffer
  noted_claimed n group there at claimed = map_same (noted_by n) (noted_by (n + 1)) buffer (λ entry.
      sym (noted_more n group there at entry
      ∙ ap (λ (t : Bool). noted_by n entry || ((is_compressed (group_of group).content && ends_in buffer (group_of group) entry) && not t)) claimed
      ∙ ap (λ (t : Bool). noted_by n entry || t) (and_false (is_compressed (group_of group).content && ends_in buffer (group_of group) entry))
      ∙ or_false (noted_by n entry)))

  pub noted_free : (n : ℕ) (group : Kept) → n < length groups → get_or groups n group ≡ group → is_claimed claims (group_of group) ≡ false
      → map (λ entry. noted_by n entry || (is_compressed (group_of group).content && ends_in buffer (group_of group) entry)) buffer ≡ map (noted_by (n + 1)) buffer
  noted_free n group there at unclaimed = map_same (λ entry. noted_by n entry || (is_compressed (group_of group).content && ends_in buffer (group_of group) entry)) (noted_by (n + 1)) buffer (λ entry.
      sym (noted_more n group there at entry
      ∙ ap (λ (t : Bool). noted_by n entry || ((is_compressed (group_of group).content && ends_in buffer (group_of group) entry) && not t)) unclaimed
      ∙ ap (λ (t : Bool). noted_by n entry || t) (and_true (is_compressed (group_of group).content && ends_in buffer (group_of group) entry))))

-- once all groups are passed these are the entries of a flush
pub noted_flushed : (list : GroupList) (n : ℕ) → length list.groups.items ≤ n
    → map (noted_by (book_of list).claims (book_of list).buffer list.groups.items n) (book_of list).buffer ≡ map (λ entry. list_any (ends (book_of list).buffer entry) (frozen (free_packed (book_of list)))) (book_of list).buffer
noted_flushed list n all =
    let book = book_of list in
    map_same (noted_by book.claims book.buffer list.groups.items n) (λ entry. list_any (ends book.buffer entry) (frozen (free_packed book))) book.buffer (λ entry.
    ap (list_any (λ group. takes_packed book.claims (λ other. ends_in book.buffer other entry) (group_of group))) (take_all n list.groups.items all)
    ∙ sym (any_packed book (ends book.buffer entry) ∙ any-map (takes_packed book.claims (λ other. ends_in book.buffer other entry)) group_of list.groups.items))
