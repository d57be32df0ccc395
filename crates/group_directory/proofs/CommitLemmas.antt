-- Steps of a commit joined: what one leaves for the next.
use Rattle.std.proofs.Common.{◌≡◌, ℕ, ◌≤◌, ◌+◌, Bool, true, false, ◌&&◌, cond, List, [], ◌∷◌, ◌++◌, map, Option, None, Some, is_none, refl, sym, ap, subst, ◌∙◌, arith, length}
use Rattle.std.specs.List.{All, AllByRecursion}
use Rattle.std.proofs.lemmas.List.{append-nil, append_assoc, map-append}
use Rattle.std.proofs.lemmas.List.Elements.{All-from_recursion, recursion_from_All}
use Rattle.cs_types.specs.declared.Key.{Key}
use Rattle.cs_types.specs.Keys.{same_key}
use Rattle.delta_store.specs.Versions.{Store}
use Rattle.group_book.specs.Book as book
use Rattle.group_book.specs.Book.{End, Version, Book, Content, opened, opened_in, is_opened, how_many}
use Rattle.group_book.specs.Book.{Content as content}
use Rattle.group_book.specs.Commits.{is_one_of, is_live, has_live, end_after, ended_by, with_opened, after_ends}
use Rattle.group_book.proofs.Keys.{key_is}
use Rattle.group_book.proofs.Lists.{all-append, list_any-none}
use Rattle.group_view.specs.declared.groups.Group.{Group}
use Rattle.group_view.specs.declared.groups.GroupList.{GroupList}
use Rattle.group_view.specs.Books.{group_of, claim_of, book_of}
use Rattle.group_view.specs.Views.{endings_of}
use Rattle.group_view.specs.Lists.{IsOpenAt, IsFittingContent, IsHeld}
use Rattle.group_directory.specs.Committing.{NewGroup, new_groups, IsUnmarked, IsRoomy, HasRoom, places}
use Rattle.group_directory.proofs.OpenLemmas.{IsShut, split, opens, opens_in, is_opened-open, opened-shut, places-shut, roomy-shut}
use Rattle.group_directory.proofs.EndLemmas.{live_kept}
use Rattle.group_directory.proofs.LoadLemmas.{shut_loaded, fitting_loaded, grown}
use Rattle.group_directory.proofs.IdLemmas.{places-append}

-- ---- at most one store is open

count_shut : (groups : List Group) → AllByRecursion IsShut groups → how_many opens_in (map group_of groups) ≡ 0
count_shut [] shut = refl
count_shut (group ∷ groups) shut = rw (is_opened-open group.content, shut.0, count_shut groups shut.1) refl

count_open : (before : List Group) (group : Group) (after : List Group) → AllByRecursion IsShut before → AllByRecursion IsShut after → how_many opens_in (map group_of (before ++ group ∷ after)) ≤ 1
count_open [] group after shut_before shut_after = step (opens_in (group_of group)) (count_shut after shut_after)
  where
    step : (t : Bool) → how_many opens_in (map group_of after) ≡ 0 → cond t 1 0 + how_many opens_in (map group_of after) ≤ 1
    step true none = omega (arith, none)
    step false none = omega (arith, none)
count_open (first ∷ before) group after shut_before shut_after = rw (is_opened-open first.content, shut_before.0) (omega (arith, count_open before group after shut_before.1 shut_after))

pub one_open : (groups : List Group) (at : Option ℕ) → IsOpenAt groups at → how_many opens_in (map group_of groups) ≤ 1
one_open groups None shut = omega (arith, count_shut groups (recursion_from_All IsShut groups shut))
one_open groups (Some at) some_open =
    let s = split groups at some_open in
    subst (λ (gs : List Group). how_many opens_in (map group_of gs) ≤ 1) (sym s.whole) (count_open s.before s.group s.after s.shut_before s.shut_after)

-- ---- groups after the others

pub opened_more : (groups more : List Group) (at : Option ℕ) → IsOpenAt groups at → AllByRecursion IsShut more → IsOpenAt (groups ++ more) at
opened_more groups more None shut shut_more = All-from_recursion IsShut (groups ++ more) (all-append IsShut groups more (recursion_from_All IsShut groups shut) shut_more)
opened_more groups more (Some at) some_open shut_more =
    let s = split groups at some_open in
    let whole : groups ++ more ≡ s.before ++ s.group ∷ (s.after ++ more) = ap (λ (gs : List Group). gs ++ more) s.whole ∙ append_assoc s.before (s.group ∷ s.after) more in
    subst (λ (gs : List Group). IsOpenAt gs (Some at)) (sym whole)
    (subst (λ (place : ℕ). IsOpenAt (s.before ++ s.group ∷ (s.after ++ more)) (Some place)) (sym s.place)
    (opens s.before s.group (s.after ++ more) s.stands s.shut_before (all-append IsShut s.after more s.shut_after shut_more)))

abbrev Fits : Group → Type 0
Fits group = IsFittingContent group.content

pub held_loaded : (old new : GroupList) (loads : List NewGroup) → IsHeld old → All IsUnmarked loads → new.groups.items ≡ old.groups.items ++ new_groups old.next loads → new.opened ≡ old.opened → new.claims ≡ old.claims → IsHeld new
held_loaded old new loads held unmarked items opened claims = record {
  fitting = subst (λ (gs : List Group). All Fits gs) (sym items) (All-from_recursion Fits (old.groups.items ++ new_groups old.next loads) (all-append Fits old.groups.items (new_groups old.next loads) (recursion_from_All Fits old.groups.items held.fitting) (fitting_loaded old.next loads (recursion_from_All IsUnmarked loads unmarked))));
  opened = subst (λ (gs : List Group). IsOpenAt gs new.opened) (sym items) (subst (λ (at : Option ℕ). IsOpenAt (old.groups.items ++ new_groups old.next loads) at) (sym opened) (opened_more old.groups.items (new_groups old.next loads) old.opened held.opened (shut_loaded old.next loads)));
  lent = rw claims held.lent;
}

abbrev Roomy : ℕ → ℕ → Group → Type 0
Roomy group_rows rows group = IsRoomy group_rows rows group.content

roomy_shut : (group_rows rows : ℕ) (groups : List Group) → AllByRecursion IsShut groups → AllByRecursion (Roomy group_rows rows) groups
roomy_shut group_rows rows [] shut = tt
roomy_shut group_rows rows (group ∷ groups) shut = (roomy-shut group_rows rows group.content shut.0, roomy_shut group_rows rows groups shut.1)

pub room_loaded : (group_rows rows count : ℕ) (old new : GroupList) (pool : List Store) (loads : List NewGroup) → new.groups.items ≡ old.groups.items ++ new_groups old.next loads
    → length new.groups.items ≡ length old.groups.items + count → new.groups.room ≡ old.groups.room → new.next ≡ old.next + count
    → HasRoom group_rows rows count old pool → HasRoom group_rows rows 0 new pool
room_loaded group_rows rows count old new pool loads items len capacity next room =
    let more = new_groups old.next loads in
    let shut = shut_loaded old.next loads in
    let same : places group_rows (map group_of new.groups.items) ≡ places group_rows (map group_of old.groups.items) =
    ap (λ (gs : List Group). places group_rows (map group_of gs)) items
    ∙ ap (places group_rows) (map-append group_of old.groups.items more)
    ∙ places-append group_rows (map group_of old.groups.items) (map group_of more)
    ∙ ap (λ (n : ℕ). places group_rows (map group_of old.groups.items) + n) (places-shut group_rows more shut) ∙ omega arith in
    record {
      opened = subst (λ (gs : List Group). All (Roomy group_rows rows) gs) (sym items) (All-from_recursion (Roomy group_rows rows) (old.groups.items ++ more) (all-append (Roomy group_rows rows) old.groups.items more (recursion_from_All (Roomy group_rows rows) old.groups.items room.opened) (roomy_shut group_rows rows more shut)));
      stores = room.stores;
      enough = rw same room.enough;
      groups = rw same (omega (arith, room.groups, len, capacity));
      ids = rw same (omega (arith, room.ids, next));
    }

-- the book of the list with the loads
pub book_grown : (old new : GroupList) (loads : List NewGroup) (count : ℕ) → new.groups.items ≡ old.groups.items ++ new_groups old.next loads → new.next ≡ old.next + count → new.buffer.entries ≡ old.buffer.entries → new.claims.items ≡ old.claims.items
    → book_of new ≡ grown (book_of old) (map group_of old.groups.items ++ map group_of (new_groups old.next loads)) (old.next + count)
book_grown old new loads count items next buffer claims = λ i. record { groups = groups i; buffer = endings_of (buffer i); claims = map claim_of (claims i); next = next i }
  where
    groups : map group_of new.groups.items ≡ map group_of old.groups.items ++ map group_of (new_groups old.next loads)
    groups = ap (map group_of) items ∙ map-append group_of old.groups.items (new_groups old.next loads)

-- ---- keys without a live version in the open store

opened-append : (xs ys : List book.Group) → opened (xs ++ ys) ≡ opened xs ++ opened ys
opened-append [] ys = refl
opened-append (x ∷ xs) ys = ap (λ (more : List Version). opened_in x.content ++ more) (opened-append xs ys) ∙ sym (append_assoc (opened_in x.content) (opened xs) (opened ys))

pub opened_loaded : (groups : List Group) (id : ℕ) (loads : List NewGroup) → opened (map group_of (groups ++ new_groups id loads)) ≡ opened (map group_of groups)
opened_loaded groups id loads =
    ap opened (map-append group_of groups (new_groups id loads))
    ∙ opened-append (map group_of groups) (map group_of (new_groups id loads))
    ∙ ap (λ (more : List Version). opened (map group_of groups) ++ more) (opened-shut (new_groups id loads) (shut_loaded id loads))
    ∙ append-nil (opened (map group_of groups))

opened_in-ended : (g : Version → Version) (one : Content) → opened_in (with_opened (map g) one) ≡ map g (opened_in one)
opened_in-ended g (content.Opened versions) = refl
opened_in-ended g (content.Closed versions) = refl
opened_in-ended g (content.Compressed versions) = refl
opened_in-ended g content.Invisible = refl
opened_in-ended g (content.Tombstone versions ends) = refl

opened_ended : (g : Version → Version) (groups : List book.Group) → opened (map (λ (group : book.Group). record group { content = with_opened (map g) group.content }) groups) ≡ map g (opened groups)
opened_ended g [] = refl
opened_ended g (group ∷ groups) = rw (opened_in-ended g group.content, opened_ended g groups) (sym (map-append g (opened_in group.content) (opened groups)))

dead_one : (replaced : List Key) (c : ℕ) (key : Key) (e : Option End) → is_one_of replaced key ≡ true → is_none (end_after (is_one_of replaced key) c e) ≡ false
dead_one replaced c key None is = rw is refl
dead_one replaced c key (Some end) is = rw is refl

dead_each : (replaced : List Key) (c : ℕ) (key : Key) → is_one_of replaced key ≡ true → (vs : List Version) → AllByRecursion (λ (v : Version). is_live key v ≡ false) (map (ended_by replaced c) vs)
dead_each replaced c key is [] = tt
dead_each replaced c key is (v ∷ vs) = (step (same_key key v.key) refl, dead_each replaced c key is vs)
  where
    step : (t : Bool) → same_key key v.key ≡ t → (same_key key v.key && is_none (end_after (is_one_of replaced v.key) c v.end)) ≡ false
    step false t_is = rw t_is refl
    step true t_is = rw (t_is, key_is key v.key t_is) (dead_one replaced c key v.end is)

-- a key that is replaced where it is live is not live any more
pub dead_ended : (replaced : List Key) (c : ℕ) (key : Key) (vs : List Version) → (has_live key vs ≡ true → is_one_of replaced key ≡ true) → has_live key (map (ended_by replaced c) vs) ≡ false
dead_ended replaced c key vs among = step (is_one_of replaced key) refl (has_live key vs) refl
  where
    apart : true ≡ false → ⊥
    apart h = cc

    step : (t : Bool) → is_one_of replaced key ≡ t → (l : Bool) → has_live key vs ≡ l → has_live key (map (ended_by replaced c) vs) ≡ false
    step true t_is l l_is = list_any-none (is_live key) (map (ended_by replaced c) vs) (dead_each replaced c key t_is vs)
    step false t_is false l_is = live_kept replaced key c vs t_is ∙ l_is
    step false t_is true l_is = absurd (apart (sym (among l_is) ∙ t_is))

pub dead_commit : (replaced : List Key) (c : ℕ) (key : Key) (old ends : GroupList) (loads : List NewGroup) → book_of ends ≡ after_ends replaced c (book_of old) → (has_live key (opened (map group_of old.groups.items)) ≡ true → is_one_of replaced key ≡ true)
    → has_live key (opened (map group_of (ends.groups.items ++ new_groups ends.next loads))) ≡ false
dead_commit replaced c key old ends loads is among =
    ap (has_live key) (opened_loaded ends.groups.items ends.next loads
    ∙ ap (λ (whole : Book). opened whole.groups) is
    ∙ opened_ended (ended_by replaced c) (map group_of old.groups.items))
    ∙ dead_ended replaced c key (opened (map group_of old.groups.items)) among
