-- A list of groups whose open store has changed.
use Rattle.std.proofs.Common.{◌-◌, min, max, cond, not, ◌≡◌, ℕ, suc, ◌<◌, ◌≤◌, ◌+◌, Bool, true, false, List, [], ◌∷◌, ◌++◌, map, length, get_or, set, Option, Some, None, refl, sym, ap, subst, ◌∙◌, arith}
use Rattle.std.specs.List.{All, AllByRecursion}
use Rattle.std.specs.Prelude.{nat_lt}
use Rattle.std.specs.List.Sorted.{IsPermutation}
use Rattle.cs_types.specs.declared.Key.{Key}
use Rattle.cs_types.specs.Keys.{same_key}
use Rattle.group_view.specs.Lends.{with_group}
use Rattle.std.proofs.lemmas.List.{length-set, length-map}
use Rattle.std.proofs.lemmas.List.Elements.{recursion_from_All}
use Rattle.std.proofs.lemmas.List.Folds.{list_any-append}
use Rattle.delete_buffer.specs.Entries.{Entry, Room, AreInOrder, Ascend, ended}
use Rattle.delta_store.specs.Versions.{Store}
use Rattle.group_book.specs.Commits.{is_live, has_live, new_version, with_version, with_opened, ended_by, with_endings, entries_by, after_ends}
use Rattle.group_book.proofs.Lists.{all-append}
use Rattle.group_book.proofs.Made.{endings_of as ended_at}
use Rattle.group_book.specs.Book as book
use Rattle.group_book.specs.Book.{Content as book_content}
use Rattle.group_book.specs.Book.{Version, Content, opened, is_compressed}
use Rattle.group_view.specs.declared.groups.GroupContent.{GroupContent}
use Rattle.group_view.specs.declared.groups.GroupContent.TheVariants.{Opened, Closed, Compressed, Invisible, Tombstone}
use Rattle.group_view.specs.declared.groups.Group.{Group}
use Rattle.group_view.specs.declared.groups.GroupList.{GroupList}
use Rattle.group_view.specs.Parts.{Rowed, stored_version, stored_versions}
use Rattle.group_view.specs.Books.{versions_of, rowed_in_content, content_of, group_of, claim_of, book_of}
use Rattle.group_view.specs.Views.{endings_of}
use Rattle.group_view.specs.Lists.{is_open, listed, packed_in, IsOpenAt, IsFittingContent, IsHeld}
use Rattle.group_directory.specs.Committing.{origin_of, origins, not_live, put_in, places_in, places, HasRoomFor, IsReadyFor, IsRoomy, HasRoom}
use Rattle.group_directory.proofs.OpenLemmas.{IsShut, IsSplit, split, KeepsShut, turned, turned-shut, with_version-shut, with_opened-shut, opened-open, opened-shut}
use Rattle.group_directory.proofs.BufferLemmas.{buffer_is}
use Rattle.group_directory.proofs.PackedLaws.{unpacked, open_unpacked, packed-set}
use Rattle.group_directory.proofs.PutLemmas as put

-- the list with this content at the place, and with another buffer
abbrev pub changed_list : GroupList → ℕ → Group → GroupContent → Option ℕ → Room → GroupList
changed_list list at here content opened buffer = record list { groups = with_group list.groups at (record here { content = content }); opened = opened; buffer = buffer }

pub split_at : (old : GroupList) (at : ℕ) → IsHeld old → old.opened ≡ Some at → IsSplit old.groups.items at
split_at old at held opened = split old.groups.items at (subst (λ (place : Option ℕ). IsOpenAt old.groups.items place) opened held.opened)

pub open_kind_is : (content : GroupContent) → is_open content ≡ true → is_compressed (content_of content) ≡ false
open_kind_is (Opened store) is = refl
open_kind_is (Closed store) is = refl
open_kind_is (Compressed packed marks) is = cc
open_kind_is Invisible is = refl
open_kind_is (Tombstone total deleted) is = refl

put_kind : (group_rows : ℕ) (version : Version) (content : GroupContent) → is_open content ≡ true → is_compressed (with_version group_rows version (content_of content)) ≡ false
put_kind group_rows version (Opened store) is = store_kind (nat_lt (length (versions_of (stored_versions store.versions) ++ version ∷ [])) group_rows) (versions_of (stored_versions store.versions) ++ version ∷ [])
  where
    store_kind : (t : Bool) (versions : List Version) → is_compressed (cond t (book_content.Opened versions) (book_content.Closed versions)) ≡ false
    store_kind true versions = refl
    store_kind false versions = refl
put_kind group_rows version (Closed store) is = refl
put_kind group_rows version (Compressed packed marks) is = cc
put_kind group_rows version Invisible is = refl
put_kind group_rows version (Tombstone total deleted) is = refl

shut_open : false ≡ true → ⊥
shut_open h = cc

module _ (old : GroupList) (at : ℕ) (here : Group) (held : IsHeld old) (is_at : old.opened ≡ Some at) (read : here ≡ get_or old.groups.items at here) where
  s : IsSplit old.groups.items at
  s = split_at old at held is_at

  is_here : here ≡ s.group
  is_here = read ∙ put.read old.groups.items at s here

  pub place_there : at < length old.groups.items
  place_there = put.there old.groups.items at s

  pub open_here : is_open here.content ≡ true
  open_here = ap (λ (group : Group). is_open group.content) is_here ∙ s.stands

  pub live_here : opened (map group_of old.groups.items) ≡ versions_of (rowed_in_content here.content)
  live_here = put.live_there old.groups.items at s ∙ ap (λ (group : Group). versions_of (rowed_in_content group.content)) (sym is_here)

  pub places_here : (group_rows : ℕ) → places group_rows (map group_of old.groups.items) ≡ places_in group_rows (content_of here.content)
  places_here group_rows = put.places_there old.groups.items at s group_rows ∙ ap (λ (group : Group). places_in group_rows (content_of group.content)) (sym is_here)

  pub all_here : (P : Group → Type 0) → All P old.groups.items → P here
  all_here P all = subst P (sym is_here) (put.here old.groups.items at s P all)

module _ (old : GroupList) (at : ℕ) (here : Group) (content : GroupContent) (opened_at : Option ℕ) (buffer : Room) (held : IsHeld old) (is_at : old.opened ≡ Some at) (read : here ≡ get_or old.groups.items at here) where
  t : IsSplit old.groups.items at
  t = split_at old at held is_at

  same : here ≡ t.group
  same = read ∙ put.read old.groups.items at t here

  made : Group
  made = record here { content = content }

  new : GroupList
  new = changed_list old at here content opened_at buffer

  whole : set old.groups.items at made ≡ t.before ++ made ∷ t.after
  whole = put.write old.groups.items at t made

  pub changed_groups : (f : Content → Content) → KeepsShut f → content_of content ≡ f (content_of here.content) → map group_of (set old.groups.items at (record here { content = content })) ≡ map (turned f) (map group_of old.groups.items)
  unfolding new made
  changed_groups f keeps is =
      ap (map group_of) whole
      ∙ put.turned_there old.groups.items at t f keeps made (ap (λ (group : Group). group.id) same) (is ∙ ap (λ (group : Group). f (content_of group.content)) same)

  map_same : (groups : List book.Group) → map (turned (λ one. one)) groups ≡ groups
  map_same [] = refl
  map_same (group ∷ groups) = ap (λ (more : List book.Group). group ∷ more) (map_same groups)

  pub same_groups : content_of content ≡ content_of here.content → map group_of (set old.groups.items at (record here { content = content })) ≡ map group_of old.groups.items
  same_groups is = changed_groups (λ one. one) (λ one shut. refl) is ∙ map_same (map group_of old.groups.items)

  pub held_open : is_open content ≡ true → opened_at ≡ Some at → IsHeld (changed_list old at here content opened_at buffer)
  unfolding new made
  held_open stays is_opened =
      put.held_made old new at t made held whole (put.fits_open content stays) refl
      (subst (λ (place : Option ℕ). IsOpenAt (t.before ++ made ∷ t.after) place) (sym is_opened) (put.opened_made old.groups.items at t made stays))

  pub held_shut : is_open content ≡ false → IsFittingContent content → opened_at ≡ None → IsHeld (changed_list old at here content opened_at buffer)
  unfolding new made
  held_shut shut fits is_opened =
      put.held_made old new at t made held whole fits refl
      (subst (λ (place : Option ℕ). IsOpenAt (t.before ++ made ∷ t.after) place) (sym is_opened) (put.shut_made old.groups.items at t made shut))

  pub origins_more : (rowed : Rowed) → rowed_in_content content ≡ rowed_in_content here.content ++ rowed ∷ [] → IsPermutation (origins old.groups.items ++ origin_of rowed ∷ []) (origins (set old.groups.items at (record here { content = content })))
  unfolding new made
  origins_more rowed rows =
      subst (λ (gs : List Group). IsPermutation (origins old.groups.items ++ origin_of rowed ∷ []) (origins gs)) (sym whole)
      (subst (λ (gs : List Group). IsPermutation (origins gs ++ origin_of rowed ∷ []) (origins (t.before ++ made ∷ t.after))) (sym t.whole)
      (put.origins-put t.before t.group made t.after rowed (rows ∙ ap (λ (group : Group). rowed_in_content group.content ++ rowed ∷ []) same)))

  pub same_origins : map origin_of (rowed_in_content content) ≡ map origin_of (rowed_in_content here.content) → origins (set old.groups.items at (record here { content = content })) ≡ origins old.groups.items
  unfolding new made
  same_origins rows =
      ap origins whole
      ∙ put.origins_same t.before t.group made t.after (rows ∙ ap (λ (group : Group). map origin_of (rowed_in_content group.content)) same)
      ∙ ap origins (sym t.whole)

  pub same_listed : is_open content ≡ true → rowed_in_content content ≡ rowed_in_content here.content → listed (set old.groups.items at (record here { content = content })) ≡ listed old.groups.items
  unfolding new made
  same_listed stays rows =
      ap listed whole
      ∙ put.listed_same t.before t.group made t.after (ap (λ (group : Group). group.id) same) t.stands stays (rows ∙ ap (λ (group : Group). rowed_in_content group.content) same)
      ∙ ap listed (sym t.whole)

  -- the packed groups stay, whatever the open store becomes
  pub same_packed : is_compressed (content_of content) ≡ false → packed_in (set old.groups.items at (record here { content = content })) ≡ packed_in old.groups.items
  same_packed is = packed-set old.groups.items at here (record here { content = content }) read (unpacked here.id content is ∙ sym (open_unpacked here.id here.content (open_here old at here held is_at read)))

  pub put_packed : (group_rows : ℕ) (version : Version) → content_of content ≡ with_version group_rows version (content_of here.content) → packed_in (set old.groups.items at (record here { content = content })) ≡ packed_in old.groups.items
  put_packed group_rows version is = same_packed (ap is_compressed is ∙ put_kind group_rows version here.content (open_here old at here held is_at read))

  pub less_room : (group_rows rows : ℕ) (pool : List Store) → IsRoomy group_rows rows content → places_in group_rows (content_of content) + 1 ≡ places_in group_rows (content_of here.content)
      → HasRoom group_rows (suc rows) 0 old pool → HasRoom group_rows rows 0 (changed_list old at here content opened_at buffer) pool
  unfolding new made
  less_room group_rows rows pool roomy fewer room =
      put.room-put group_rows rows old new pool at t made whole (length-set old.groups.items at (record here { content = content })) refl refl roomy (fewer ∙ ap (λ (group : Group). places_in group_rows (content_of group.content)) same) room

  pub same_room : (group_rows rows loads : ℕ) (pool : List Store) → IsRoomy group_rows rows content → places_in group_rows (content_of content) ≡ places_in group_rows (content_of here.content)
      → HasRoom group_rows rows loads old pool → HasRoom group_rows rows loads (changed_list old at here content opened_at buffer) pool
  unfolding new made
  same_room group_rows rows loads pool roomy is room =
      put.room-kept group_rows rows loads old new pool at t made whole (length-set old.groups.items at (record here { content = content })) refl refl roomy (is ∙ ap (λ (group : Group). places_in group_rows (content_of group.content)) same) room

  -- what is true of every group that is not open is true of the others
  pub all_changed : (P : Group → Type 0) → ((group : Group) → is_open group.content ≡ false → P group) → P (record here { content = content }) → All P (set old.groups.items at (record here { content = content }))
  unfolding new made
  all_changed P shut is = subst (λ (gs : List Group). All P gs) (sym whole) (put.around old.groups.items at t P shut made is)

  -- the versions of the open store afterwards
  pub opened_open : is_open content ≡ true → opened (map group_of (set old.groups.items at (record here { content = content }))) ≡ versions_of (rowed_in_content content)
  unfolding new made
  opened_open stays = ap (λ (gs : List Group). opened (map group_of gs)) whole ∙ opened-open t.before made t.after stays t.shut_before t.shut_after

  pub opened_shut : is_open content ≡ false → opened (map group_of (set old.groups.items at (record here { content = content }))) ≡ []
  unfolding new made
  opened_shut shut = ap (λ (gs : List Group). opened (map group_of gs)) whole ∙ opened-shut (t.before ++ made ∷ t.after) (all-append IsShut t.before (made ∷ t.after) t.shut_before (shut, t.shut_after))

  pub book_put : (group_rows : ℕ) (version : Version) → content_of content ≡ with_version group_rows version (content_of here.content) → buffer.entries ≡ old.buffer.entries → book_of (changed_list old at here content opened_at buffer) ≡ put_in group_rows version (book_of old)
  book_put group_rows version is entries = λ i. record {
    groups = changed_groups (with_version group_rows version) (with_version-shut group_rows version) is i;
    buffer = endings_of (entries i);
    claims = map claim_of old.claims.items;
    next = old.next;
  }

  pub book_same : content_of content ≡ content_of here.content → buffer.entries ≡ old.buffer.entries → book_of (changed_list old at here content opened_at buffer) ≡ book_of old
  book_same is entries = λ i. record {
    groups = same_groups is i;
    buffer = endings_of (entries i);
    claims = map claim_of old.claims.items;
    next = old.next;
  }

  pub book_ended : (replaced keys : List Key) (c : ℕ) → content_of content ≡ with_opened (map (ended_by replaced c)) (content_of here.content)
      → AreInOrder old.buffer.entries → AreInOrder buffer.entries → Ascend keys → All (λ (entry : Entry). entry.1 < c) old.buffer.entries → IsPermutation (ended keys c ++ old.buffer.entries) buffer.entries
      → keys ≡ not_live (versions_of (rowed_in_content here.content)) replaced → book_of (changed_list old at here content opened_at buffer) ≡ after_ends replaced c (book_of old)
  book_ended replaced keys c is order order_new up below moved others = λ i. record {
    groups = changed_groups (with_opened (map (ended_by replaced c))) (with_opened-shut (map (ended_by replaced c))) is i;
    buffer = entries i;
    claims = map claim_of old.claims.items;
    next = old.next;
  }
    where
      live : opened (map group_of old.groups.items) ≡ versions_of (rowed_in_content here.content)
      live = live_here old at here held is_at read

      entries : endings_of buffer.entries ≡ with_endings (endings_of old.buffer.entries) (entries_by (opened (map group_of old.groups.items)) replaced c)
      entries =
          buffer_is old.buffer.entries buffer.entries keys c order order_new up below moved
          ∙ ap (λ (ks : List Key). with_endings (endings_of old.buffer.entries) (ended_at c ks)) (others ∙ ap (λ (vs : List Version). not_live vs replaced) (sym live))

-- without an open store all keys go into the buffer
all_others : (replaced : List Key) → not_live [] replaced ≡ replaced
all_others [] = refl
all_others (key ∷ keys) = ap (λ (more : List Key). key ∷ more) (all_others keys)

pub book_ended_none : (old : GroupList) (buffer : Room) (replaced : List Key) (c : ℕ) → All IsShut old.groups.items
    → AreInOrder old.buffer.entries → AreInOrder buffer.entries → Ascend replaced → All (λ (entry : Entry). entry.1 < c) old.buffer.entries → IsPermutation (ended replaced c ++ old.buffer.entries) buffer.entries
    → book_of (record old { buffer = buffer }) ≡ after_ends replaced c (book_of old)
book_ended_none old buffer replaced c shut order order_new up below moved = λ i. record {
  groups = groups i;
  buffer = entries i;
  claims = map claim_of old.claims.items;
  next = old.next;
}
  where
    each : AllByRecursion IsShut old.groups.items
    each = recursion_from_All IsShut old.groups.items shut

    groups : map group_of old.groups.items ≡ map (turned (with_opened (map (ended_by replaced c)))) (map group_of old.groups.items)
    groups = sym (turned-shut (with_opened (map (ended_by replaced c))) (with_opened-shut (map (ended_by replaced c))) old.groups.items each)

    entries : endings_of buffer.entries ≡ with_endings (endings_of old.buffer.entries) (entries_by (opened (map group_of old.groups.items)) replaced c)
    entries =
        buffer_is old.buffer.entries buffer.entries replaced c order order_new up below moved
        ∙ ap (λ (ks : List Key). with_endings (endings_of old.buffer.entries) (ended_at c ks)) (sym (ap (λ (vs : List Version). not_live vs replaced) (opened-shut old.groups.items each) ∙ all_others replaced))

-- ---- one version more in an open store

pub roomy_put : (group_rows rows : ℕ) (old new : GroupContent) → is_open old ≡ true → is_open new ≡ true → length (rowed_in_content new) ≡ length (rowed_in_content old) + 1 → length (rowed_in_content new) < group_rows
    → ((n : ℕ) → HasRoomFor (suc n) old → HasRoomFor n new) → IsRoomy group_rows (suc rows) old → IsRoomy group_rows rows new
roomy_put group_rows rows (Opened one) (Opened two) open_old open_new more less room roomy =
    room (min rows (max 1 (group_rows - length two.versions))) (omega (arith, roomy, more, less, length-map one.versions stored_version, length-map two.versions stored_version))
roomy_put group_rows rows old (Closed store) open_old open_new more less room roomy = tt
roomy_put group_rows rows old (Compressed packed marks) open_old open_new more less room roomy = tt
roomy_put group_rows rows old Invisible open_old open_new more less room roomy = tt
roomy_put group_rows rows old (Tombstone total deleted) open_old open_new more less room roomy = tt
roomy_put group_rows rows (Closed store) (Opened two) open_old open_new more less room roomy = absurd (shut_open open_old)
roomy_put group_rows rows (Compressed packed marks) (Opened two) open_old open_new more less room roomy = absurd (shut_open open_old)
roomy_put group_rows rows Invisible (Opened two) open_old open_new more less room roomy = absurd (shut_open open_old)
roomy_put group_rows rows (Tombstone total deleted) (Opened two) open_old open_new more less room roomy = absurd (shut_open open_old)

-- another key is live where it was
pub live_more : (key other : Key) (begin : ℕ) (vs : List Version) → same_key other key ≡ false → has_live other vs ≡ false → has_live other (vs ++ new_version begin key ∷ []) ≡ false
live_more key other begin vs apart dead = list_any-append (is_live other) vs (new_version begin key ∷ []) ∙ rw (dead, apart) refl

pub ready-shut : (keys : List Key) (content : GroupContent) → is_open content ≡ false → IsReadyFor keys content
ready-shut keys (Opened store) h = absurd (shut_open (sym h))
ready-shut keys (Closed store) h = tt
ready-shut keys (Compressed packed marks) h = tt
ready-shut keys Invisible h = tt
ready-shut keys (Tombstone total deleted) h = tt

-- fewer keys than there are have no live version
pub few_others : (versions : List Version) (keys : List Key) → length (not_live versions keys) ≤ length keys
few_others versions [] = omega arith
few_others versions (key ∷ keys) = step (not (has_live key versions)) (few_others versions keys)
  where
    step : (t : Bool) → length (not_live versions keys) ≤ length keys → length (cond t (key ∷ not_live versions keys) (not_live versions keys)) ≤ length (key ∷ keys)
    step true few = omega (arith, few)
    step false few = omega (arith, few)
