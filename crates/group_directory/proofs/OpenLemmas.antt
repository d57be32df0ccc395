-- Where the open store stands among the groups, and what a version more there makes of the book.
use Rattle.std.proofs.Common.{◌≡◌, ◌≢◌, ℕ, zero, suc, Bool, true, false, ◌||◌, List, [], ◌∷◌, ◌++◌, map, length, slice_get, Some, None, refl, sym, ap, ◌∙◌, arith}
use Rattle.std.specs.List.{AllByRecursion, list_any}
use Rattle.std.proofs.lemmas.List.{append-nil}
use Rattle.group_book.specs.Book as book
use Rattle.group_book.specs.Book.{Version, Book, Content, opened, opened_in, is_opened}
use Rattle.group_book.specs.Commits.{with_version, with_opened, with_group, store_of, stored}
use Rattle.group_view.specs.declared.groups.GroupContent.{GroupContent}
use Rattle.group_view.specs.declared.groups.GroupContent.TheVariants.{Opened, Closed, Compressed, Invisible, Tombstone}
use Rattle.group_view.specs.declared.groups.Group.{Group}
use Rattle.group_view.specs.Books.{versions_of, rowed_in_content, content_of, group_of}
use Rattle.group_view.specs.Lists.{is_open, IsOpenAt}
use Rattle.group_directory.specs.Committing.{put_in, places_in, places, IsRoomy}

abbrev pub IsShut : Group → Type 0
IsShut group = is_open group.content ≡ false

-- the groups before the open store, that one, and those after it
pub record IsSplit (groups : List Group) (at : ℕ) : Type 0 where
  pub before : List Group
  pub group : Group
  pub after : List Group
  pub whole : groups ≡ before ++ group ∷ after
  pub place : at ≡ length before
  pub stands : is_open group.content ≡ true
  pub shut_before : AllByRecursion IsShut before
  pub shut_after : AllByRecursion IsShut after

all_shut : (groups : List Group) → ((k : ℕ) (group : Group) → slice_get groups k ≡ Some group → is_open group.content ≡ false) → AllByRecursion IsShut groups
all_shut [] each = tt
all_shut (group ∷ groups) each = (each 0 group refl, all_shut groups (λ k g is. each (suc k) g is))

is_some_true : (t : Bool) → Some t ≡ Some true → t ≡ true
is_some_true t h = cc

none_some : {X : Type 0} (x : X) → None ≡ Some x → ⊥
none_some x h = cc

pub split : (groups : List Group) (at : ℕ) → IsOpenAt groups (Some at) → IsSplit groups at
split [] at held = absurd (none_some true held.0)
split (group ∷ groups) zero held = record {
  before = [];
  group = group;
  after = groups;
  whole = refl;
  place = refl;
  stands = is_some_true (is_open group.content) held.0;
  shut_before = tt;
  shut_after = all_shut groups (λ k g is. held.1 (suc k) (λ e. absurd (omega (arith, e))) g is);
}
split (group ∷ groups) (suc at) held =
    let rest = split groups at (held.0, λ other apart g is. held.1 (suc other) (λ e. apart (omega (arith, e))) g is) in
    record {
      before = group ∷ rest.before;
      group = rest.group;
      after = rest.after;
      whole = ap (λ (more : List Group). group ∷ more) rest.whole;
      place = ap suc rest.place;
      stands = rest.stands;
      shut_before = (held.1 0 (λ e. absurd (omega (arith, e))) group refl, rest.shut_before);
      shut_after = rest.shut_after;
    }

same_some : (a b : Group) → Some a ≡ Some b → a ≡ b
same_some a b h = cc

shut_at : (groups : List Group) → AllByRecursion IsShut groups → (k : ℕ) (group : Group) → slice_get groups k ≡ Some group → is_open group.content ≡ false
shut_at [] all k group is = absurd (none_some group is)
shut_at (first ∷ groups) all zero group is = ap (λ (g : Group). is_open g.content) (sym (same_some first group is)) ∙ all.0
shut_at (first ∷ groups) all (suc k) group is = shut_at groups all.1 k group is

-- and back
pub opens : (before : List Group) (group : Group) (after : List Group) → is_open group.content ≡ true → AllByRecursion IsShut before → AllByRecursion IsShut after → IsOpenAt (before ++ group ∷ after) (Some (length before))
opens [] group after some_open shut_before shut_after = (ap Some some_open, others)
  where
    others : (other : ℕ) → other ≢ 0 → (g : Group) → slice_get (group ∷ after) other ≡ Some g → is_open g.content ≡ false
    others zero apart g is = absurd (apart refl)
    others (suc k) apart g is = shut_at after shut_after k g is
opens (first ∷ before) group after some_open shut_before shut_after = step (opens before group after some_open shut_before.1 shut_after)
  where
    step : IsOpenAt (before ++ group ∷ after) (Some (length before)) → IsOpenAt (first ∷ (before ++ group ∷ after)) (Some (length (first ∷ before)))
    step rest = (rest.0, others)
      where
        others : (other : ℕ) → other ≢ length (first ∷ before) → (g : Group) → slice_get (first ∷ (before ++ group ∷ after)) other ≡ Some g → is_open g.content ≡ false
        others zero apart g is = ap (λ (g : Group). is_open g.content) (sym (same_some first g is)) ∙ shut_before.0
        others (suc k) apart g is = rest.1 k (λ e. apart (omega (arith, e))) g is

-- ---- groups that are not open

pub with_version-shut : (group_rows : ℕ) (version : Version) (content : GroupContent) → is_open content ≡ false → with_version group_rows version (content_of content) ≡ content_of content
with_version-shut group_rows version (Opened store) h = cc
with_version-shut group_rows version (Closed store) h = refl
with_version-shut group_rows version (Compressed packed marks) h = refl
with_version-shut group_rows version Invisible h = refl
with_version-shut group_rows version (Tombstone total deleted) h = refl

pub with_opened-shut : (f : List Version → List Version) (content : GroupContent) → is_open content ≡ false → with_opened f (content_of content) ≡ content_of content
with_opened-shut f (Opened store) h = cc
with_opened-shut f (Closed store) h = refl
with_opened-shut f (Compressed packed marks) h = refl
with_opened-shut f Invisible h = refl
with_opened-shut f (Tombstone total deleted) h = refl

opened_in-shut : (content : GroupContent) → is_open content ≡ false → opened_in (content_of content) ≡ []
opened_in-shut (Opened store) h = cc
opened_in-shut (Closed store) h = refl
opened_in-shut (Compressed packed marks) h = refl
opened_in-shut Invisible h = refl
opened_in-shut (Tombstone total deleted) h = refl

places_in-shut : (group_rows : ℕ) (content : GroupContent) → is_open content ≡ false → places_in group_rows (content_of content) ≡ 0
places_in-shut group_rows (Opened store) h = cc
places_in-shut group_rows (Closed store) h = refl
places_in-shut group_rows (Compressed packed marks) h = refl
places_in-shut group_rows Invisible h = refl
places_in-shut group_rows (Tombstone total deleted) h = refl

pub is_opened-open : (content : GroupContent) → is_opened (content_of content) ≡ is_open content
is_opened-open (Opened store) = refl
is_opened-open (Closed store) = refl
is_opened-open (Compressed packed marks) = refl
is_opened-open Invisible = refl
is_opened-open (Tombstone total deleted) = refl

pub roomy-shut : (group_rows rows : ℕ) (content : GroupContent) → is_open content ≡ false → IsRoomy group_rows rows content
roomy-shut group_rows rows (Opened store) h = absurd (true_false h)
  where
    true_false : true ≡ false → ⊥
    true_false h = cc
roomy-shut group_rows rows (Closed store) h = tt
roomy-shut group_rows rows (Compressed packed marks) h = tt
roomy-shut group_rows rows Invisible h = tt
roomy-shut group_rows rows (Tombstone total deleted) h = tt

pub opened_in-open : (content : GroupContent) → is_open content ≡ true → opened_in (content_of content) ≡ versions_of (rowed_in_content content)
opened_in-open (Opened store) h = refl
opened_in-open (Closed store) h = cc
opened_in-open (Compressed packed marks) h = cc
opened_in-open Invisible h = cc
opened_in-open (Tombstone total deleted) h = cc

-- ---- lists of groups

-- the group with its content turned
abbrev pub turned : (Content → Content) → book.Group → book.Group
turned f group = record group { content = f group.content }

-- what is not open stays
abbrev pub KeepsShut : (Content → Content) → Type 0
KeepsShut f = (content : GroupContent) → is_open content ≡ false → f (content_of content) ≡ content_of content

pub turned-shut : (f : Content → Content) → KeepsShut f → (groups : List Group) → AllByRecursion IsShut groups → map (turned f) (map group_of groups) ≡ map group_of groups
turned-shut f keeps [] shut = refl
turned-shut f keeps (group ∷ groups) shut = rw (keeps group.content shut.0, turned-shut f keeps groups shut.1) refl

pub opened-shut : (groups : List Group) → AllByRecursion IsShut groups → opened (map group_of groups) ≡ []
opened-shut [] shut = refl
opened-shut (group ∷ groups) shut = rw (opened_in-shut group.content shut.0, opened-shut groups shut.1) refl

pub places-shut : (group_rows : ℕ) (groups : List Group) → AllByRecursion IsShut groups → places group_rows (map group_of groups) ≡ 0
places-shut group_rows [] shut = refl
places-shut group_rows (group ∷ groups) shut = omega (arith, places_in-shut group_rows group.content shut.0, places-shut group_rows groups shut.1)

abbrev pub opens_in : book.Group → Bool
opens_in group = is_opened group.content

pub any-shut : (groups : List Group) → AllByRecursion IsShut groups → list_any opens_in (map group_of groups) ≡ false
any-shut [] shut = refl
any-shut (group ∷ groups) shut = rw (is_opened-open group.content, shut.0, any-shut groups shut.1) refl

pub any-open : (before : List Group) (group : Group) (after : List Group) → is_open group.content ≡ true → list_any opens_in (map group_of (before ++ group ∷ after)) ≡ true
any-open [] group after some_open = rw (is_opened-open group.content, some_open) refl
any-open (first ∷ before) group after some_open = rw (any-open before group after some_open) (or_true (opens_in (group_of first)))
  where
    or_true : (t : Bool) → (t || true) ≡ true
    or_true true = refl
    or_true false = refl

pub opened-open : (before : List Group) (group : Group) (after : List Group) → is_open group.content ≡ true → AllByRecursion IsShut before → AllByRecursion IsShut after → opened (map group_of (before ++ group ∷ after)) ≡ versions_of (rowed_in_content group.content)
opened-open [] group after some_open shut_before shut_after = rw (opened-shut after shut_after) (append-nil (opened_in (content_of group.content)) ∙ opened_in-open group.content some_open)
opened-open (first ∷ before) group after some_open shut_before shut_after = rw (opened_in-shut first.content shut_before.0) (opened-open before group after some_open shut_before.1 shut_after)

pub places-open : (group_rows : ℕ) (before : List Group) (group : Group) (after : List Group) → AllByRecursion IsShut before → AllByRecursion IsShut after → places group_rows (map group_of (before ++ group ∷ after)) ≡ places_in group_rows (content_of group.content)
places-open group_rows [] group after shut_before shut_after = omega (arith, places-shut group_rows after shut_after)
places-open group_rows (first ∷ before) group after shut_before shut_after = omega (arith, places_in-shut group_rows first.content shut_before.0, places-open group_rows before group after shut_before.1 shut_after)

pub turned-open : (f : Content → Content) → KeepsShut f → (before : List Group) (group made : Group) (after : List Group) → AllByRecursion IsShut before → AllByRecursion IsShut after
    → made.id ≡ group.id → content_of made.content ≡ f (content_of group.content)
    → map group_of (before ++ made ∷ after) ≡ map (turned f) (map group_of (before ++ group ∷ after))
turned-open f keeps [] group made after shut_before shut_after id content = rw (id, content, turned-shut f keeps after shut_after) refl
turned-open f keeps (first ∷ before) group made after shut_before shut_after id content =
    rw (keeps first.content shut_before.0, turned-open f keeps before group made after shut_before.1 shut_after id content) refl

-- ---- the book

pub stored-open : (group_rows : ℕ) (version : Version) (whole : Book) → list_any opens_in whole.groups ≡ true → put_in group_rows version whole ≡ stored group_rows version whole
stored-open group_rows version whole some_open = rw some_open refl

pub stored-shut : (group_rows : ℕ) (version : Version) (whole : Book) → list_any opens_in whole.groups ≡ false → stored group_rows version whole ≡ with_group (store_of group_rows (version ∷ [])) whole
stored-shut group_rows version whole shut = rw shut refl
