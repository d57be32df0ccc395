-- A version more in the open store: the rows, the room that is left, and the keys that are live there.
use Rattle.std.proofs.Common.{◌≡◌, ℕ, zero, suc, ◌<◌, ◌≤◌, ◌+◌, ◌-◌, min, max, true, false, List, [], ◌∷◌, ◌++◌, map, length, get_or, set, Option, Some, None, refl, sym, ap, subst, ◌∙◌, add-one, arith, cond}
use Rattle.std.specs.List.{All, AllByRecursion, AllPairs, list_any}
use Rattle.std.specs.List.Sorted.{IsPermutation}
use Rattle.std.proofs.lemmas.Grind.{flat_map-append}
use Rattle.std.proofs.lemmas.List.{append-nil, append_assoc, map-append, length-append, get_or_at, set_at}
use Rattle.std.proofs.lemmas.List.Elements.{All-from_recursion, recursion_from_All, All-weaker, All-push}
use Rattle.std.proofs.lemmas.List.Sorted.{IsPermutation-append_right, IsPermutation-append_left, IsPermutation-to_front, IsPermutation-trans}
use Rattle.cs_types.specs.declared.Key.{Key}
use Rattle.cs_types.specs.Keys.{key_cmp, same_key}
use Rattle.delta_store.specs.declared.version.KeyedVersion.{KeyedVersion}
use Rattle.delta_store.specs.Versions.{Store}
use Rattle.group_book.specs.Book as book
use Rattle.group_book.specs.Book.{Version, Book, Content, opened, is_opened}
use Rattle.group_book.specs.Commits.{has_live, with_version, with_group, store_of, stored}
use Rattle.group_book.proofs.Lists.{all-append, all-left, all-right}
use Rattle.group_view.specs.declared.groups.GroupContent.{GroupContent}
use Rattle.group_view.specs.declared.groups.GroupContent.TheVariants.{Opened, Closed, Compressed, Invisible, Tombstone}
use Rattle.group_view.specs.declared.groups.Group.{Group}
use Rattle.group_view.specs.declared.groups.GroupList.{GroupList}
use Rattle.group_view.specs.Parts.{Rowed, stored_versions}
use Rattle.group_view.specs.Views.{endings_of}
use Rattle.group_view.specs.Books.{versions_of, rowed_in_content, content_of, group_of, claim_of, book_of}
use Rattle.group_view.specs.Lists.{is_open, is_listed, listed, packed_of, packed_in, IsOpenAt, IsFittingContent, IsHeld}
use Rattle.group_directory.specs.Committing.{Origin, origin_of, origins, put_in, places_in, places, stores_opened, IsRoomy, HasRoom, IsReadyToOpen}
use Rattle.std.specs.declared.cmp.Ordering.TheVariants.{Less}
use Rattle.group_directory.proofs.EndLemmas.{less_apart}
use Rattle.group_directory.proofs.OpenLemmas.{IsShut, IsSplit, opens, roomy-shut, KeepsShut, turned, turned-shut, turned-open, with_version-shut, opened-open, opened-shut, places-open, places-shut, any-open, any-shut, opens_in, stored-shut}

-- ---- rows

pub origins-append : (xs ys : List Group) → origins (xs ++ ys) ≡ origins xs ++ origins ys
origins-append [] ys = refl
origins-append (x ∷ xs) ys = ap (λ (more : List Origin). map origin_of (rowed_in_content x.content) ++ more) (origins-append xs ys) ∙ sym (append_assoc (map origin_of (rowed_in_content x.content)) (origins xs) (origins ys))

-- an origin more in the middle
one_more : (before middle after : List Origin) (o : Origin) → IsPermutation ((before ++ (middle ++ after)) ++ o ∷ []) (before ++ ((middle ++ o ∷ []) ++ after))
one_more before middle after o =
    subst (λ (xs : List Origin). IsPermutation xs (before ++ ((middle ++ o ∷ []) ++ after))) (sym (append_assoc before (middle ++ after) (o ∷ [])))
    (IsPermutation-append_right before ((middle ++ after) ++ o ∷ []) ((middle ++ o ∷ []) ++ after)
    (subst (λ (xs : List Origin). IsPermutation xs ((middle ++ o ∷ []) ++ after)) (sym (append_assoc middle after (o ∷ [])))
    (subst (λ (ys : List Origin). IsPermutation (middle ++ (after ++ o ∷ [])) ys) (sym (append_assoc middle (o ∷ []) after))
    (IsPermutation-append_right middle (after ++ o ∷ []) (o ∷ after) (IsPermutation-to_front after o)))))

pub origins-put : (before : List Group) (group made : Group) (after : List Group) (rowed : Rowed) → rowed_in_content made.content ≡ rowed_in_content group.content ++ rowed ∷ []
    → IsPermutation (origins (before ++ group ∷ after) ++ origin_of rowed ∷ []) (origins (before ++ made ∷ after))
origins-put before group made after rowed rows =
    let more : map origin_of (rowed_in_content made.content) ≡ map origin_of (rowed_in_content group.content) ++ origin_of rowed ∷ [] = ap (map origin_of) rows ∙ map-append origin_of (rowed_in_content group.content) (rowed ∷ []) in
    rw (origins-append before (group ∷ after), origins-append before (made ∷ after), more)
    (one_more (origins before) (map origin_of (rowed_in_content group.content)) (origins after) (origin_of rowed))

-- ---- where the open store stands

module _ (groups : List Group) (at : ℕ) (s : IsSplit groups at) where
  pub there : at < length groups
  there = omega (arith, s.place, ap (λ (gs : List Group). length gs) s.whole, length-append s.before (s.group ∷ s.after))

  pub read : (d : Group) → get_or groups at d ≡ s.group
  read d = ap (λ (gs : List Group). get_or gs at d) s.whole ∙ get_or_at s.before s.group s.after d at (sym s.place)

  pub write : (made : Group) → set groups at made ≡ s.before ++ made ∷ s.after
  write made = ap (λ (gs : List Group). set gs at made) s.whole ∙ set_at s.before s.group s.after made at (sym s.place)

  pub live_there : opened (map group_of groups) ≡ versions_of (rowed_in_content s.group.content)
  live_there = ap (λ (gs : List Group). opened (map group_of gs)) s.whole ∙ opened-open s.before s.group s.after s.stands s.shut_before s.shut_after

  pub places_there : (group_rows : ℕ) → places group_rows (map group_of groups) ≡ places_in group_rows (content_of s.group.content)
  places_there group_rows = ap (λ (gs : List Group). places group_rows (map group_of gs)) s.whole ∙ places-open group_rows s.before s.group s.after s.shut_before s.shut_after

  pub places_made : (group_rows : ℕ) (made : Group) → places group_rows (map group_of (s.before ++ made ∷ s.after)) ≡ places_in group_rows (content_of made.content)
  places_made group_rows made = places-open group_rows s.before made s.after s.shut_before s.shut_after

  pub opens_there : list_any opens_in (map group_of groups) ≡ true
  opens_there = ap (λ (gs : List Group). list_any opens_in (map group_of gs)) s.whole ∙ any-open s.before s.group s.after s.stands

  pub turned_there : (f : Content → Content) → KeepsShut f → (made : Group) → made.id ≡ s.group.id → content_of made.content ≡ f (content_of s.group.content)
      → map group_of (s.before ++ made ∷ s.after) ≡ map (turned f) (map group_of groups)
  turned_there f keeps made id content =
      turned-open f keeps s.before s.group made s.after s.shut_before s.shut_after id content
      ∙ ap (λ (gs : List Group). map (turned f) (map group_of gs)) (sym s.whole)

  -- what is true of all groups is true of those around it and of the one made of it
  pub all_made : (P : Group → Type 0) (made : Group) → P made → All P groups → All P (s.before ++ made ∷ s.after)
  all_made P made here all =
      let parts = subst (λ (gs : List Group). AllByRecursion P gs) s.whole (recursion_from_All P groups all) in
      All-from_recursion P _ (all-append P s.before (made ∷ s.after) (all-left P s.before (s.group ∷ s.after) parts) (here, (all-right P s.before (s.group ∷ s.after) parts).1))

  pub here : (P : Group → Type 0) → All P groups → P s.group
  here P all = (all-right P s.before (s.group ∷ s.after) (subst (λ (gs : List Group). AllByRecursion P gs) s.whole (recursion_from_All P groups all))).0

  -- around the open store no room is asked for
  pub roomy_made : (group_rows rows : ℕ) (made : Group) → IsRoomy group_rows rows made.content → All (λ (group : Group). IsRoomy group_rows rows group.content) (s.before ++ made ∷ s.after)
  roomy_made group_rows rows made room =
      let free : (gs : List Group) → AllByRecursion IsShut gs → AllByRecursion (λ (group : Group). IsRoomy group_rows rows group.content) gs = free_of in
      All-from_recursion (λ (group : Group). IsRoomy group_rows rows group.content) _ (all-append _ s.before (made ∷ s.after) (free s.before s.shut_before) (room, free s.after s.shut_after))
    where
      free_of : (gs : List Group) → AllByRecursion IsShut gs → AllByRecursion (λ (group : Group). IsRoomy group_rows rows group.content) gs
      free_of [] shut = tt
      free_of (g ∷ gs) shut = (roomy-shut group_rows rows g.content shut.0, free_of gs shut.1)

shut_each : (P : Group → Type 0) → ((group : Group) → is_open group.content ≡ false → P group) → (groups : List Group) → AllByRecursion IsShut groups → AllByRecursion P groups
shut_each P shut [] all = tt
shut_each P shut (group ∷ groups) all = (shut group all.0, shut_each P shut groups all.1)

pub around : (groups : List Group) (at : ℕ) (s : IsSplit groups at) (P : Group → Type 0) → ((group : Group) → is_open group.content ≡ false → P group) → (made : Group) → P made → All P (s.before ++ made ∷ s.after)
around groups at s P shut made is = All-from_recursion P _ (all-append P s.before (made ∷ s.after) (shut_each P shut s.before s.shut_before) (is, shut_each P shut s.after s.shut_after))

-- the group stays where the open store is looked for, or there is none any more
pub opened_made : (groups : List Group) (at : ℕ) (s : IsSplit groups at) (made : Group) → is_open made.content ≡ true → IsOpenAt (s.before ++ made ∷ s.after) (Some at)
opened_made groups at s made some_open = subst (λ (place : ℕ). IsOpenAt (s.before ++ made ∷ s.after) (Some place)) (sym s.place) (opens s.before made s.after some_open s.shut_before s.shut_after)

pub shut_made : (groups : List Group) (at : ℕ) (s : IsSplit groups at) (made : Group) → is_open made.content ≡ false → IsOpenAt (s.before ++ made ∷ s.after) None
shut_made groups at s made shut = All-from_recursion IsShut _ (all-append IsShut s.before (made ∷ s.after) s.shut_before (shut, s.shut_after))

-- what holds of the list holds with the group in place of the open store
pub held_made : (old new : GroupList) (at : ℕ) (s : IsSplit old.groups.items at) (made : Group) → IsHeld old → new.groups.items ≡ s.before ++ made ∷ s.after → IsFittingContent made.content → new.claims ≡ old.claims
    → IsOpenAt (s.before ++ made ∷ s.after) new.opened → IsHeld new
held_made old new at s made held items fits claims opened = record {
  fitting = subst (λ (gs : List Group). All (λ (group : Group). IsFittingContent group.content) gs) (sym items) (all_made old.groups.items at s (λ (group : Group). IsFittingContent group.content) made fits held.fitting);
  opened = subst (λ (gs : List Group). IsOpenAt gs new.opened) (sym items) opened;
  lent = rw claims held.lent;
}

-- ---- room

-- one row less is to come
pub room-put : (group_rows rows : ℕ) (old new : GroupList) (pool : List Store) (at : ℕ) (s : IsSplit old.groups.items at) (made : Group) → new.groups.items ≡ s.before ++ made ∷ s.after
    → length new.groups.items ≡ length old.groups.items → new.groups.room ≡ old.groups.room → new.next ≡ old.next
    → IsRoomy group_rows rows made.content → places_in group_rows (content_of made.content) + 1 ≡ places_in group_rows (content_of s.group.content)
    → HasRoom group_rows (suc rows) 0 old pool → HasRoom group_rows rows 0 new pool
room-put group_rows rows old new pool at s made items len capacity next roomy fewer room =
    let more : places group_rows (map group_of old.groups.items) ≡ suc (places group_rows (map group_of new.groups.items)) =
    places_there old.groups.items at s group_rows ∙ sym fewer ∙ add-one _ ∙ ap suc (sym (ap (λ (gs : List Group). places group_rows (map group_of gs)) items ∙ places_made old.groups.items at s group_rows made)) in
    let same : stores_opened group_rows (places group_rows (map group_of old.groups.items)) (suc rows) ≡ stores_opened group_rows (places group_rows (map group_of new.groups.items)) rows =
    ap (λ (free : ℕ). stores_opened group_rows free (suc rows)) more in
    record {
      opened = subst (λ (gs : List Group). All (λ (group : Group). IsRoomy group_rows rows group.content) gs) (sym items) (roomy_made old.groups.items at s group_rows rows made roomy);
      stores = All-weaker (λ (store : Store). (store.versions ≡ []) × (min (suc rows) group_rows ≤ store.spare)) (λ (store : Store). (store.versions ≡ []) × (min rows group_rows ≤ store.spare)) (λ store h. (h.0, omega (arith, h.1))) pool room.stores;
      enough = omega (arith, room.enough, same);
      groups = omega (arith, room.groups, same, len, capacity);
      ids = omega (arith, room.ids, same, next);
    }

-- where the open store stays, with as much room, all stays as it was
pub room-kept : (group_rows rows loads : ℕ) (old new : GroupList) (pool : List Store) (at : ℕ) (s : IsSplit old.groups.items at) (made : Group) → new.groups.items ≡ s.before ++ made ∷ s.after
    → length new.groups.items ≡ length old.groups.items → new.groups.room ≡ old.groups.room → new.next ≡ old.next
    → IsRoomy group_rows rows made.content → places_in group_rows (content_of made.content) ≡ places_in group_rows (content_of s.group.content)
    → HasRoom group_rows rows loads old pool → HasRoom group_rows rows loads new pool
room-kept group_rows rows loads old new pool at s made items len capacity next roomy same room =
    let places_same : places group_rows (map group_of new.groups.items) ≡ places group_rows (map group_of old.groups.items) =
    ap (λ (gs : List Group). places group_rows (map group_of gs)) items ∙ places_made old.groups.items at s group_rows made ∙ same ∙ sym (places_there old.groups.items at s group_rows) in
    record {
      opened = subst (λ (gs : List Group). All (λ (group : Group). IsRoomy group_rows rows group.content) gs) (sym items) (roomy_made old.groups.items at s group_rows rows made roomy);
      stores = room.stores;
      enough = rw places_same room.enough;
      groups = rw places_same (omega (arith, room.groups, len, capacity));
      ids = rw places_same (omega (arith, room.ids, next));
    }

-- one row can be put where more can
pub room-less : (group_rows rows loads : ℕ) (list : GroupList) → All (λ (group : Group). IsRoomy group_rows (suc rows) group.content) list.groups.items → All (λ (group : Group). IsRoomy group_rows 1 group.content) list.groups.items
room-less group_rows rows loads list all = All-weaker (λ (group : Group). IsRoomy group_rows (suc rows) group.content) (λ (group : Group). IsRoomy group_rows 1 group.content) (λ group h. less group.content h) list.groups.items all
  where
    less : (content : GroupContent) → IsRoomy group_rows (suc rows) content → IsRoomy group_rows 1 content
    less (Opened store) h = omega (arith, h)
    less (Closed store) h = tt
    less (Compressed packed marks) h = tt
    less Invisible h = tt
    less (Tombstone total deleted) h = tt

-- ---- a store more

-- without an open store there is no place, and the pool has a store for the next row
pub ready_to_open : (group_rows rows loads : ℕ) (list : GroupList) (pool : List Store) → IsHeld list → HasRoom group_rows (suc rows) loads list pool → IsReadyToOpen list pool list.opened
ready_to_open group_rows rows loads list pool held room = step list.opened held.opened
  where
    step : (opened : Option ℕ) → IsOpenAt list.groups.items opened → IsReadyToOpen list pool opened
    step (Some at) some_open = tt
    step None shut =
        let none = places-shut group_rows list.groups.items (recursion_from_All IsShut list.groups.items shut) in
        let one : stores_opened group_rows (places group_rows (map group_of list.groups.items)) (suc rows) ≡ 1 + stores_opened group_rows (group_rows - 1) rows = ap (λ (free : ℕ). stores_opened group_rows free (suc rows)) none in
        (omega (arith, room.enough, one), omega (arith, room.groups, one), omega (arith, room.ids, one))

module _ (old new : GroupList) (store : Store) (shut : All IsShut old.groups.items) (empty : store.versions ≡ []) (items : new.groups.items ≡ old.groups.items ++ record { id = old.next; content = Opened store } ∷ []) where
  abbrev added : Group
  added = record { id = old.next; content = Opened store }

  abbrev all_shut : AllByRecursion IsShut old.groups.items
  all_shut = recursion_from_All IsShut old.groups.items shut

  pub opened_here : IsOpenAt new.groups.items (Some (length old.groups.items))
  opened_here = subst (λ (gs : List Group). IsOpenAt gs (Some (length old.groups.items))) (sym items) (opens old.groups.items added [] refl all_shut tt)

  pub live_none : (key : Key) → has_live key (opened (map group_of new.groups.items)) ≡ has_live key (opened (map group_of old.groups.items))
  live_none key =
      ap (λ (gs : List Group). has_live key (opened (map group_of gs))) items
      ∙ ap (has_live key) (opened-open old.groups.items added [] refl all_shut tt ∙ ap (λ (vs : List KeyedVersion). versions_of (stored_versions vs)) empty)
      ∙ sym (ap (has_live key) (opened-shut old.groups.items all_shut))

  pub no_origin : origins new.groups.items ≡ origins old.groups.items
  no_origin =
      ap origins items ∙ origins-append old.groups.items (added ∷ [])
      ∙ ap (λ (vs : List KeyedVersion). origins old.groups.items ++ (map origin_of (stored_versions vs) ++ [])) empty
      ∙ append-nil (origins old.groups.items)

  pub packed_new : packed_in new.groups.items ≡ packed_in old.groups.items
  packed_new = ap packed_in items ∙ flat_map-append packed_of old.groups.items (added ∷ []) ∙ append-nil (packed_in old.groups.items)

  pub places_new : (group_rows : ℕ) → places group_rows (map group_of new.groups.items) ≡ max 1 group_rows
  places_new group_rows =
      ap (λ (gs : List Group). places group_rows (map group_of gs)) items
      ∙ places-open group_rows old.groups.items added [] all_shut tt
      ∙ ap (λ (vs : List KeyedVersion). max 1 (group_rows - length (versions_of (stored_versions vs)))) empty
      ∙ omega arith

  -- a row put into the new store is a row for which a store is opened
  pub put_new : (group_rows : ℕ) (version : Version) → new.next ≡ old.next + 1 → new.buffer.entries ≡ old.buffer.entries → new.claims.items ≡ old.claims.items → put_in group_rows version (book_of new) ≡ stored group_rows version (book_of old)
  put_new group_rows version next buffer claims =
      same_books ∙ sym (stored-shut group_rows version (book_of old) (any-shut old.groups.items all_shut))
    where
      groups : map (turned (with_version group_rows version)) (map group_of new.groups.items) ≡ map group_of old.groups.items ++ record { id = old.next; content = store_of group_rows (version ∷ []) } ∷ []
      groups =
          ap (λ (gs : List Group). map (turned (with_version group_rows version)) (map group_of gs)) items
          ∙ ap (λ (gs : List book.Group). map (turned (with_version group_rows version)) gs) (map-append group_of old.groups.items (added ∷ []))
          ∙ map-append (turned (with_version group_rows version)) (map group_of old.groups.items) (group_of added ∷ [])
          ∙ ap (λ (gs : List book.Group). gs ++ turned (with_version group_rows version) (group_of added) ∷ []) (turned-shut (with_version group_rows version) (with_version-shut group_rows version) old.groups.items all_shut)
          ∙ ap (λ (vs : List KeyedVersion). map group_of old.groups.items ++ record { id = old.next; content = store_of group_rows (versions_of (stored_versions vs) ++ version ∷ []) } ∷ []) empty

      same_books : put_in group_rows version (book_of new) ≡ with_group (store_of group_rows (version ∷ [])) (book_of old)
      same_books = λ i. record { groups = groups i; buffer = endings_of (buffer i); claims = map claim_of (claims i); next = next i }

  pub room_new : (group_rows rows : ℕ) (pool rest : List Store) → 1 ≤ group_rows → pool ≡ rest ++ store ∷ [] → length new.groups.items ≡ length old.groups.items + 1 → new.groups.room ≡ old.groups.room → new.next ≡ old.next + 1
      → HasRoom group_rows (suc rows) 0 old pool → HasRoom group_rows (suc rows) 0 new rest
  room_new zero rows pool rest some is len capacity next room = absurd (omega (arith, some))
  room_new (suc g) rows pool rest some is len capacity next room =
      let group_rows : ℕ = suc g in
      let before : stores_opened (suc g) (places (suc g) (map group_of old.groups.items)) (suc rows) ≡ 1 + stores_opened (suc g) (suc g - 1) rows = ap (λ (free : ℕ). stores_opened (suc g) free (suc rows)) (places-shut (suc g) old.groups.items all_shut) in
      let free : places (suc g) (map group_of new.groups.items) ≡ suc g = places_new (suc g) ∙ omega arith in
      let after : stores_opened (suc g) (places (suc g) (map group_of new.groups.items)) (suc rows) ≡ stores_opened (suc g) g rows = ap (λ (free : ℕ). stores_opened (suc g) free (suc rows)) free in
      let less : suc g - 1 ≡ g = omega arith in
      let same : stores_opened (suc g) (suc g - 1) rows ≡ stores_opened (suc g) g rows = ap (λ (n : ℕ). stores_opened (suc g) n rows) less in
      let stores = recursion_from_All (λ (one : Store). (one.versions ≡ []) × (min (suc rows) (suc g) ≤ one.spare)) (rest ++ store ∷ []) (subst (λ (all : List Store). All (λ (one : Store). (one.versions ≡ []) × (min (suc rows) (suc g) ≤ one.spare)) all) is room.stores) in
      let here = all-right (λ (one : Store). (one.versions ≡ []) × (min (suc rows) (suc g) ≤ one.spare)) rest (store ∷ []) stores in
      record {
        opened = subst (λ (gs : List Group). All (λ (group : Group). IsRoomy (suc g) (suc rows) group.content) gs) (sym items)
            (All-from_recursion (λ (group : Group). IsRoomy (suc g) (suc rows) group.content) (old.groups.items ++ added ∷ [])
            (all-append (λ (group : Group). IsRoomy (suc g) (suc rows) group.content) old.groups.items (added ∷ [])
            (recursion_from_All (λ (group : Group). IsRoomy (suc g) (suc rows) group.content) old.groups.items room.opened)
            (omega (arith, here.0.1, ap (λ (vs : List KeyedVersion). length vs) empty), tt)));
        stores = All-from_recursion (λ (one : Store). (one.versions ≡ []) × (min (suc rows) (suc g) ≤ one.spare)) rest (all-left (λ (one : Store). (one.versions ≡ []) × (min (suc rows) (suc g) ≤ one.spare)) rest (store ∷ []) stores);
        enough = omega (arith, room.enough, before, after, same, ap (λ (all : List Store). length all) is, length-append rest (store ∷ []));
        groups = omega (arith, room.groups, before, after, same, len, capacity);
        ids = omega (arith, room.ids, before, after, same, next);
      }

-- ---- what readers see

open_listed : (content : GroupContent) → is_open content ≡ true → is_listed content ≡ true
open_listed (Opened store) h = refl
open_listed (Closed store) h = refl
open_listed (Compressed packed marks) h = refl
open_listed Invisible h = h
open_listed (Tombstone total deleted) h = h

pub fits_open : (content : GroupContent) → is_open content ≡ true → IsFittingContent content
fits_open (Opened store) h = tt
fits_open (Closed store) h = tt
fits_open (Compressed packed marks) h = absurd (differ h)
  where
    differ : false ≡ true → ⊥
    differ h = cc
fits_open Invisible h = tt
fits_open (Tombstone total deleted) h = tt

pub listed_same : (before : List Group) (group made : Group) (after : List Group) → made.id ≡ group.id → is_open group.content ≡ true → is_open made.content ≡ true → rowed_in_content made.content ≡ rowed_in_content group.content
    → listed (before ++ made ∷ after) ≡ listed (before ++ group ∷ after)
listed_same [] group made after id some_open open_made rows = rw (open_listed made.content open_made, open_listed group.content some_open, id, rows) refl
listed_same (first ∷ before) group made after id some_open open_made rows =
    ap (λ (more : List (ℕ × List Rowed)). cond (is_listed first.content) ((first.id, rowed_in_content first.content) ∷ more) more) (listed_same before group made after id some_open open_made rows)

pub origins_same : (before : List Group) (group made : Group) (after : List Group) → map origin_of (rowed_in_content made.content) ≡ map origin_of (rowed_in_content group.content)
    → origins (before ++ made ∷ after) ≡ origins (before ++ group ∷ after)
origins_same [] group made after rows = rw rows refl
origins_same (first ∷ before) group made after rows = ap (λ (more : List Origin). map origin_of (rowed_in_content first.content) ++ more) (origins_same before group made after rows)

-- ---- rows one after the other

pub keys_up : (key : Key) (keys : List Key) → AllPairs (λ a b. key_cmp a b ≡ Less) (key ∷ keys) → AllPairs (λ a b. key_cmp a b ≡ Less) keys
keys_up key keys up i j d less below = up (suc i) (suc j) d (omega (arith, less)) (omega (arith, below))

pub dead_rest : (key : Key) (keys : List Key) (before after : List Version) → AllPairs (λ a b. key_cmp a b ≡ Less) (key ∷ keys) → All (λ (k : Key). has_live k before ≡ false) (key ∷ keys)
    → ((other : Key) → same_key other key ≡ false → has_live other before ≡ false → has_live other after ≡ false) → All (λ (k : Key). has_live k after ≡ false) keys
dead_rest key keys before after up dead live k d below = live (get_or keys k d) (less_apart key (get_or keys k d) (up 0 (suc k) d (omega arith) (omega (arith, below)))) (dead (suc k) d (omega (arith, below)))

pub origins_step : (first before after rest : List Origin) (o : Origin) → IsPermutation first (before ++ o ∷ rest) → IsPermutation (before ++ o ∷ []) after → IsPermutation first (after ++ rest)
origins_step first before after rest o so_far one =
    IsPermutation-trans first (before ++ o ∷ rest) (after ++ rest) so_far
    (subst (λ (xs : List Origin). IsPermutation xs (after ++ rest)) (append_assoc before (o ∷ []) rest) (IsPermutation-append_left rest (before ++ o ∷ []) after one))

-- the last of the pool
pub last_of : (P : Store → Type 0) (pool rest : List Store) (store : Store) → pool ≡ rest ++ store ∷ [] → All P pool → P store
last_of P pool rest store is all = (all-right P rest (store ∷ []) (recursion_from_All P (rest ++ store ∷ []) (subst (λ (xs : List Store). All P xs) is all))).0

pub held_new : (old new : GroupList) (store : Store) → IsHeld old → All IsShut old.groups.items → new.groups.items ≡ old.groups.items ++ record { id = old.next; content = Opened store } ∷ []
    → new.opened ≡ Some (length old.groups.items) → new.claims ≡ old.claims → IsHeld new
held_new old new store held shut items opened claims = record {
  fitting = subst (λ (gs : List Group). All (λ (group : Group). IsFittingContent group.content) gs) (sym items) (All-push (λ (group : Group). IsFittingContent group.content) old.groups.items (record { id = old.next; content = Opened store }) held.fitting tt);
  opened = subst (λ (gs : List Group). IsOpenAt gs new.opened) (sym items) (subst (λ (place : Option ℕ). IsOpenAt (old.groups.items ++ record { id = old.next; content = Opened store } ∷ []) place) (sym opened)
      (opens old.groups.items (record { id = old.next; content = Opened store }) [] refl (recursion_from_All IsShut old.groups.items shut) tt));
  lent = rw claims held.lent;
}
