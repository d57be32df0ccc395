-- The order of packed versions.
use Rattle.std.proofs.Common.{◌≡◌, ℕ, ◌<◌, ◌≤◌, Bool, true, false, cond, List, [], ◌∷◌, ◌++◌, filter, not, Option, Some, None, get_or, refl, sym, ap, subst, ◌∙◌, arith}
use Rattle.std.specs.Prelude.{◌==◌}
use Rattle.std.specs.List.{All, AllZip, list_any}
use Rattle.std.specs.List.Sorted.{IsPermutation}
use Rattle.std.specs.Option.{option_map}
use Rattle.std.proofs.lemmas.List.Elements.{filter_agree}
use Rattle.std.proofs.lemmas.List.Sorted.{IsPermutation-refl, IsPermutation-trans, IsPermutation-append, length_permutation, list_any-IsPermutation}
use Rattle.cs_model.specs.declared.work.Actor.{Actor}
use Rattle.cs_model.specs.Changes.{Change}
use Rattle.group_book.specs.Book.{Version, Ending, Content, Group, Choice, Claim, Book, opened, opened_in, frozen, frozen_in, has_ended, total, deleted, is_opened, is_closed, is_compressed, is_invisible, is_tombstone}
use Rattle.group_book.specs.Book.Content.{Opened, Closed, Compressed, Invisible, Tombstone}
use Rattle.group_book.specs.Book.Choice.{Compress, Flush, Rebuild, Merge, Settle, Clear, Idle}
use Rattle.group_book.specs.Turns.{versions_of, is_id_of, is_claimed, is_fresh, ends}
use Rattle.group_book.specs.Choices.{free, free_packed, first_of, lowest, removable, remaining, is_thin, fit_together, first_pair, flushable, flush_sources, is_settling, settling_count, tombstone_count, choices, first_some, allowed, choice, choice_work}
use Rattle.group_book.specs.Invariant.{IsSized, AreById, AreGroups, may_be_source, IsThere, IsClaim, AreClaims, IsBookOf}
use Rattle.group_book.specs.Stocks.{stock_of}
use Rattle.group_book.specs.States.{state_in, state_of}
use Rattle.group_book.specs.Orders.{IsContentReordered, IsGroupReordered, IsReordered, HasSameLine}
use Rattle.group_book.proofs.Lists.{All-in, any_same, every_one, list_any-some}
use Rattle.group_book.proofs.Move.{how_many-permutation, stock_permuted}
use Rattle.group_book.proofs.Zips.{zip_itself, zip_through, zip_weaker, zip_each, zip_all, zip_count, zip_any, zip_filter, zip_map}

-- ---- contents

-- what holds of a content with itself, and of packed versions with these in another order
pub content_cases : (P : Content → Content → Type 0) → ((content : Content) → P content content) → ((xs ys : List Version) → IsPermutation xs ys → P (Compressed xs) (Compressed ys))
    → (content other : Content) → IsContentReordered content other → P content other
content_cases P same moved (Opened versions) other is = subst (P (Opened versions)) (sym is) (same (Opened versions))
content_cases P same moved (Closed versions) other is = subst (P (Closed versions)) (sym is) (same (Closed versions))
content_cases P same moved (Compressed versions) other is = subst (P (Compressed versions)) (sym is.2) (moved versions is.0 is.1)
content_cases P same moved Invisible other is = subst (P Invisible) (sym is) (same Invisible)
content_cases P same moved (Tombstone versions ends) other is = subst (P (Tombstone versions ends)) (sym is) (same (Tombstone versions ends))

pub content_itself : (content : Content) → IsContentReordered content content
content_itself (Opened versions) = refl
content_itself (Closed versions) = refl
content_itself (Compressed versions) = (versions, IsPermutation-refl versions, refl)
content_itself Invisible = refl
content_itself (Tombstone versions ends) = refl

content_through : (first second third : Content) → IsContentReordered first second → IsContentReordered second third → IsContentReordered first third
content_through first second third is = content_cases (λ c d. IsContentReordered d third → IsContentReordered c third) (λ c h. h) (λ xs ys p h. (h.0, IsPermutation-trans xs ys h.0 p h.1, h.2)) first second is

group_through : (first second third : Group) → IsGroupReordered first second → IsGroupReordered second third → IsGroupReordered first third
group_through first second third a b = (b.0 ∙ a.0, content_through first.content second.content third.content a.1 b.1)

-- ---- what does not see the order

opened_moved : (c d : Content) → IsContentReordered c d → IsPermutation (opened_in c) (opened_in d)
opened_moved c d is = content_cases (λ c d. IsPermutation (opened_in c) (opened_in d)) (λ c. IsPermutation-refl (opened_in c)) (λ xs ys p. IsPermutation-refl []) c d is

frozen_moved : (c d : Content) → IsContentReordered c d → IsPermutation (frozen_in c) (frozen_in d)
frozen_moved c d is = content_cases (λ c d. IsPermutation (frozen_in c) (frozen_in d)) (λ c. IsPermutation-refl (frozen_in c)) (λ xs ys p. p) c d is

all_opened_moved : (gs hs : List Group) → AllZip IsGroupReordered gs hs → IsPermutation (opened gs) (opened hs)
all_opened_moved [] [] zip = IsPermutation-refl []
all_opened_moved [] (h ∷ hs) zip = absurd zip
all_opened_moved (g ∷ gs) [] zip = absurd zip
all_opened_moved (g ∷ gs) (h ∷ hs) zip = IsPermutation-append (opened_in g.content) (opened_in h.content) (opened gs) (opened hs) (opened_moved g.content h.content zip.0.1) (all_opened_moved gs hs zip.1)

all_frozen_moved : (gs hs : List Group) → AllZip IsGroupReordered gs hs → IsPermutation (frozen gs) (frozen hs)
all_frozen_moved [] [] zip = IsPermutation-refl []
all_frozen_moved [] (h ∷ hs) zip = absurd zip
all_frozen_moved (g ∷ gs) [] zip = absurd zip
all_frozen_moved (g ∷ gs) (h ∷ hs) zip = IsPermutation-append (frozen_in g.content) (frozen_in h.content) (frozen gs) (frozen hs) (frozen_moved g.content h.content zip.0.1) (all_frozen_moved gs hs zip.1)

sized_moved : (group_rows : ℕ) (c d : Content) → IsContentReordered c d → IsSized group_rows c → IsSized group_rows d
sized_moved group_rows c d is = content_cases (λ c d. IsSized group_rows c → IsSized group_rows d) (λ c h. h) (λ xs ys p h. subst (λ n. (1 ≤ n) × (n ≤ group_rows)) (sym (length_permutation xs ys p)) h) c d is

source_moved : (choice : Choice) (c d : Content) → IsContentReordered c d → may_be_source choice c ≡ may_be_source choice d
source_moved choice c d is = content_cases (λ c d. may_be_source choice c ≡ may_be_source choice d) (λ c. refl) (λ xs ys p. packed choice xs ys) c d is
  where
    packed : (choice : Choice) (xs ys : List Version) → may_be_source choice (Compressed xs) ≡ may_be_source choice (Compressed ys)
    packed (Compress source) xs ys = refl
    packed Flush xs ys = refl
    packed (Rebuild source) xs ys = refl
    packed (Merge first second) xs ys = refl
    packed Settle xs ys = refl
    packed Clear xs ys = refl
    packed Idle xs ys = refl

same_total : (c d : Content) → IsContentReordered c d → total c ≡ total d
same_total c d is = content_cases (λ c d. total c ≡ total d) (λ c. refl) (λ xs ys p. sym (length_permutation xs ys p)) c d is

same_deleted : (c d : Content) → IsContentReordered c d → deleted c ≡ deleted d
same_deleted c d is = content_cases (λ c d. deleted c ≡ deleted d) (λ c. refl) (λ xs ys p. sym (how_many-permutation _ xs ys p)) c d is

same_state : (c d : Content) → IsContentReordered c d → state_in c ≡ state_in d
same_state c d is = content_cases (λ c d. state_in c ≡ state_in d) (λ c. refl) (λ xs ys p. refl) c d is

pub same_opened : (c d : Content) → IsContentReordered c d → is_opened c ≡ is_opened d
same_opened c d is = content_cases (λ c d. is_opened c ≡ is_opened d) (λ c. refl) (λ xs ys p. refl) c d is

same_closed : (c d : Content) → IsContentReordered c d → is_closed c ≡ is_closed d
same_closed c d is = content_cases (λ c d. is_closed c ≡ is_closed d) (λ c. refl) (λ xs ys p. refl) c d is

same_compressed : (c d : Content) → IsContentReordered c d → is_compressed c ≡ is_compressed d
same_compressed c d is = content_cases (λ c d. is_compressed c ≡ is_compressed d) (λ c. refl) (λ xs ys p. refl) c d is

same_invisible : (c d : Content) → IsContentReordered c d → is_invisible c ≡ is_invisible d
same_invisible c d is = content_cases (λ c d. is_invisible c ≡ is_invisible d) (λ c. refl) (λ xs ys p. refl) c d is

same_tombstone : (c d : Content) → IsContentReordered c d → is_tombstone c ≡ is_tombstone d
same_tombstone c d is = content_cases (λ c d. is_tombstone c ≡ is_tombstone d) (λ c. refl) (λ xs ys p. refl) c d is

same_fresh : (fresh : Option ℕ) (g h : Group) → IsGroupReordered g h → is_fresh fresh g ≡ is_fresh fresh h
same_fresh None g h r = refl
same_fresh (Some id) g h r = ap (λ n. n == id) (sym r.0)

same_source : (ids : List ℕ) (g h : Group) → IsGroupReordered g h → is_id_of ids g ≡ is_id_of ids h
same_source ids g h r = ap (λ n. list_any (λ id. id == n) ids) (sym r.0)

-- ---- the book with its groups in another order

module _ (group_rows : ℕ) (book : Book) (gs : List Group) (zip : AllZip IsGroupReordered book.groups gs) (lent : All (λ (claim : Claim). versions_of claim.sources gs ≡ versions_of claim.sources book.groups) book.claims) (cs : List Change) (floor : ℕ) (j : IsBookOf group_rows book cs floor) where
  abbrev moved : Book
  moved = record book { groups = gs }

  by_id_moved : (xs ys : List Group) → AllZip IsGroupReordered xs ys → AreById xs → AreById ys
  by_id_moved [] [] zip up = tt
  by_id_moved [] (y ∷ ys) zip up = absurd zip
  by_id_moved (x ∷ xs) [] zip up = absurd zip
  by_id_moved (x ∷ xs) (y ∷ ys) zip up = (
    zip_each IsGroupReordered (λ (a : Group). x.id < a.id) (λ (b : Group). y.id < b.id) (λ a b r lt. omega (arith, lt, r.0, zip.0.0)) xs ys zip.1 up.0,
    by_id_moved xs ys zip.1 up.1,
  )

  groups_moved : AreGroups group_rows moved
  groups_moved = record {
    by_id = by_id_moved book.groups gs zip j.groups.by_id;
    below = zip_all IsGroupReordered (λ (g : Group). g.id < book.next) (λ (g : Group). g.id < book.next) (λ g h r lt. omega (arith, lt, r.0)) book.groups gs zip j.groups.below;
    one = let le = j.groups.one in omega (arith, le, zip_count IsGroupReordered (λ (g : Group). is_opened g.content) (λ (g : Group). is_opened g.content) (λ g h r. same_opened g.content h.content r.1) book.groups gs zip);
    sized = zip_all IsGroupReordered (λ (g : Group). IsSized group_rows g.content) (λ (g : Group). IsSized group_rows g.content) (λ g h r. sized_moved group_rows g.content h.content r.1) book.groups gs zip j.groups.sized;
  }

  claim_moved : (claim : Claim) → versions_of claim.sources gs ≡ versions_of claim.sources book.groups → IsClaim group_rows book cs floor claim → IsClaim group_rows moved cs floor claim
  claim_moved claim same c = record {
    below = c.below;
    kind = c.kind;
    there = All-in (IsThere book.groups) (IsThere gs) claim.sources (λ id _ is. sym (zip_any IsGroupReordered (λ (g : Group). g.id == id) (λ (g : Group). g.id == id) (λ g h r. ap (λ n. n == id) (sym r.0)) book.groups gs zip) ∙ is) c.there;
    sources = zip_all IsGroupReordered (λ (g : Group). is_id_of claim.sources g ≡ true → may_be_source claim.choice g.content ≡ true) (λ (g : Group). is_id_of claim.sources g ≡ true → may_be_source claim.choice g.content ≡ true)
        (λ g h r may is. sym (source_moved claim.choice g.content h.content r.1) ∙ may (same_source claim.sources g h r ∙ is)) book.groups gs zip c.sources;
    makes = c.makes;
    fresh = zip_all IsGroupReordered (λ (g : Group). is_fresh claim.fresh g ≡ true → is_invisible g.content ≡ true) (λ (g : Group). is_fresh claim.fresh g ≡ true → is_invisible g.content ≡ true)
        (λ g h r may is. sym (same_invisible g.content h.content r.1) ∙ may (same_fresh claim.fresh g h r ∙ is)) book.groups gs zip c.fresh;
    once = sym (zip_count IsGroupReordered (is_fresh claim.fresh) (is_fresh claim.fresh) (same_fresh claim.fresh) book.groups gs zip) ∙ c.once;
    lent = record { versions = same ∙ c.lent.versions; gone = c.lent.gone; spent = c.lent.spent; held = c.lent.held; owned = c.lent.owned };
    room = c.room;
  }

  claims_moved : AreClaims group_rows moved cs floor
  claims_moved = record {
    actors = j.claims.actors;
    sources = j.claims.sources;
    fresh = j.claims.fresh;
    made = zip_all IsGroupReordered (λ (g : Group). is_invisible g.content ≡ true → list_any (λ (claim : Claim). is_fresh claim.fresh g) book.claims ≡ true) (λ (g : Group). is_invisible g.content ≡ true → list_any (λ (claim : Claim). is_fresh claim.fresh g) book.claims ≡ true)
        (λ g h r made is. sym (any_same (λ (claim : Claim). is_fresh claim.fresh g) (λ (claim : Claim). is_fresh claim.fresh h) book.claims (every_one _ (λ (claim : Claim). same_fresh claim.fresh g h r) book.claims)) ∙ made (same_invisible g.content h.content r.1 ∙ is)) book.groups gs zip j.claims.made;
    each = λ k d inside. claim_moved (get_or book.claims k d) (lent k d inside) (j.claims.each k d inside);
  }

  groups_free : IsBookOf group_rows moved cs floor
  groups_free = record {
    stock = stock_permuted (stock_of book) cs floor (frozen gs) (opened gs) (all_frozen_moved book.groups gs zip) (all_opened_moved book.groups gs zip) j.stock;
    groups = groups_moved;
    claims = claims_moved;
  }

-- the other book is the first, with its groups
book_is : (book other : Book) → IsReordered book other → record book { groups = other.groups } ≡ other
book_is book other r =
    ap (λ (buffer : List Ending). record book { groups = other.groups; buffer = buffer }) (sym r.buffer)
    ∙ ap (λ (claims : List Claim). record book { groups = other.groups; buffer = other.buffer; claims = claims }) (sym r.claims)
    ∙ ap (λ (next : ℕ). record { groups = other.groups; buffer = other.buffer; claims = other.claims; next = next }) (sym r.next)

pub order_free : (group_rows : ℕ) (book other : Book) (cs : List Change) (floor : ℕ) → IsReordered book other → IsBookOf group_rows book cs floor → IsBookOf group_rows other cs floor
order_free group_rows book other cs floor r j = subst (λ (b : Book). IsBookOf group_rows b cs floor) (book_is book other r) (groups_free group_rows book other.groups r.groups r.lent cs floor j)

-- ---- books in the same order, and in one that is reached by two

pub reordered_itself : (book : Book) → IsReordered book book
reordered_itself book = record {
  groups = zip_itself IsGroupReordered (λ g. (refl, content_itself g.content)) book.groups;
  buffer = refl;
  claims = refl;
  next = refl;
  lent = λ k d inside. refl;
}

pub reordered_through : (first second third : Book) → IsReordered first second → IsReordered second third → IsReordered first third
reordered_through first second third a b = record {
  groups = zip_through IsGroupReordered group_through first.groups second.groups third.groups a.groups b.groups;
  buffer = b.buffer ∙ a.buffer;
  claims = b.claims ∙ a.claims;
  next = b.next ∙ a.next;
  lent = λ k d inside. (subst (λ (claims : List Claim). All (λ (claim : Claim). versions_of claim.sources third.groups ≡ versions_of claim.sources second.groups) claims) a.claims b.lent) k d inside ∙ a.lent k d inside;
}

-- ---- counts and states

pub same_lines : (book other : Book) → IsReordered book other → AllZip HasSameLine book.groups other.groups
same_lines book other r = zip_weaker IsGroupReordered HasSameLine
    (λ g h is. (sym is.0, same_state g.content h.content is.1, same_total g.content h.content is.1, same_deleted g.content h.content is.1)) book.groups other.groups r.groups

-- ---- the choice

module _ (floor group_rows : ℕ) (book : Book) (gs : List Group) (zip : AllZip IsGroupReordered book.groups gs) where
  abbrev turned : Book
  turned = record book { groups = gs }

  free_zip : AllZip IsGroupReordered (free book) (free turned)
  free_zip = zip_filter IsGroupReordered (λ g. not (is_claimed book.claims g)) (λ g. not (is_claimed book.claims g)) (λ g h r. ap (λ n. not (list_any (λ (claim : Claim). list_any (λ id. id == n) claim.sources) book.claims)) (sym r.0)) book.groups gs zip

  packed_zip : AllZip IsGroupReordered (free_packed book) (free_packed turned)
  packed_zip = zip_filter IsGroupReordered (λ (g : Group). is_compressed g.content) (λ (g : Group). is_compressed g.content) (λ g h r. same_compressed g.content h.content r.1) (free book) (free turned) free_zip

  same_lowest : (p q : Group → Bool) → ((g h : Group) → IsGroupReordered g h → p g ≡ q h) → (xs ys : List Group) → AllZip IsGroupReordered xs ys → lowest p xs ≡ lowest q ys
  same_lowest p q agree xs ys both = first (filter p xs) (filter q ys) (zip_filter IsGroupReordered p q agree xs ys both)
    where
      first : (xs ys : List Group) → AllZip IsGroupReordered xs ys → option_map (λ (g : Group). g.id) (first_of xs) ≡ option_map (λ (g : Group). g.id) (first_of ys)
      first [] [] both = refl
      first [] (y ∷ ys) both = absurd both
      first (x ∷ xs) [] both = absurd both
      first (x ∷ xs) (y ∷ ys) both = ap Some (sym both.0.0)

  same_removable : (g h : Group) → IsGroupReordered g h → removable floor g ≡ removable floor h
  same_removable g h r = sym (how_many-permutation (λ (v : Version). has_ended floor v.end) (frozen_in g.content) (frozen_in h.content) (frozen_moved g.content h.content r.1))

  same_remaining : (g h : Group) → IsGroupReordered g h → remaining floor g ≡ remaining floor h
  same_remaining g h r = sym (how_many-permutation (λ (v : Version). not (has_ended floor v.end)) (frozen_in g.content) (frozen_in h.content) (frozen_moved g.content h.content r.1))

  same_thin : (g h : Group) → IsGroupReordered g h → is_thin floor g ≡ is_thin floor h
  same_thin g h r = rw (same_removable g h r, same_total g.content h.content r.1) refl

  same_fit : (g h : Group) → IsGroupReordered g h → (a b : Group) → IsGroupReordered a b → fit_together floor group_rows g a ≡ fit_together floor group_rows h b
  same_fit g h r a b s = rw (same_remaining g h r, same_remaining a b s) refl

  same_pair : (xs ys : List Group) → AllZip IsGroupReordered xs ys → first_pair floor group_rows xs ≡ first_pair floor group_rows ys
  same_pair [] [] both = refl
  same_pair [] (y ∷ ys) both = absurd both
  same_pair (x ∷ xs) [] both = absurd both
  same_pair (x ∷ xs) (y ∷ ys) both = rw (both.0.0, same_lowest (fit_together floor group_rows x) (fit_together floor group_rows y) (same_fit x y both.0) xs ys both.1, same_pair xs ys both.1) refl

  same_flushable : flushable book ≡ flushable turned
  same_flushable = filter_agree (λ entry. list_any (ends book.buffer entry) (frozen (free_packed book))) (λ entry. list_any (ends book.buffer entry) (frozen (free_packed turned)))
      (λ entry. list_any-IsPermutation (ends book.buffer entry) (frozen (free_packed book)) (frozen (free_packed turned)) (all_frozen_moved (free_packed book) (free_packed turned) packed_zip)) book.buffer

  same_flush : flush_sources book ≡ flush_sources turned
  same_flush = zip_map IsGroupReordered (λ (g : Group). g.id) (λ g h r. sym r.0) (filter ends_in (free_packed book)) (filter ends_in (free_packed turned))
      (zip_filter IsGroupReordered ends_in ends_in (λ g h r. any_same (λ entry. list_any (ends book.buffer entry) (frozen_in g.content)) (λ entry. list_any (ends book.buffer entry) (frozen_in h.content)) book.buffer
      (every_one _ (λ entry. list_any-IsPermutation (ends book.buffer entry) (frozen_in g.content) (frozen_in h.content) (frozen_moved g.content h.content r.1)) book.buffer)) (free_packed book) (free_packed turned) packed_zip)
    where
      ends_in : Group → Bool
      ends_in g = list_any (λ entry. list_any (ends book.buffer entry) (frozen_in g.content)) book.buffer

  same_settling : settling_count floor book ≡ settling_count floor turned
  same_settling = sym (how_many-permutation (λ (v : Version). is_settling floor v.end) (frozen (free_packed book)) (frozen (free_packed turned)) (all_frozen_moved (free_packed book) (free_packed turned) packed_zip))

  same_tombstones : tombstone_count book ≡ tombstone_count turned
  same_tombstones = zip_count IsGroupReordered (λ (g : Group). is_tombstone g.content) (λ (g : Group). is_tombstone g.content) (λ g h r. same_tombstone g.content h.content r.1) book.groups gs zip

  same_choices : choices floor group_rows book ≡ choices floor group_rows turned
  same_choices = rw (
    same_lowest (λ (g : Group). is_closed g.content) (λ (g : Group). is_closed g.content) (λ g h r. same_closed g.content h.content r.1) (free book) (free turned) free_zip,
    same_flushable,
    same_lowest (is_thin floor) (is_thin floor) same_thin (free_packed book) (free_packed turned) packed_zip,
    same_pair (free_packed book) (free_packed turned) packed_zip,
    same_settling,
    same_tombstones,
  ) refl

  turned_choice : (by : Actor) → choice floor group_rows by book ≡ choice floor group_rows by turned
  turned_choice by = ap (λ l. allowed book.next by (first_some l)) same_choices

  turned_work : (made : Choice) → choice_work made floor book ≡ choice_work made floor turned
  turned_work (Compress source) = refl
  turned_work Flush = rw same_flushable refl
  turned_work (Rebuild source) = refl
  turned_work (Merge first second) = refl
  turned_work Settle = rw same_settling refl
  turned_work Clear = rw same_tombstones refl
  turned_work Idle = refl

pub same_choice : (floor group_rows : ℕ) (by : Actor) (book other : Book) → IsReordered book other → choice floor group_rows by book ≡ choice floor group_rows by other
same_choice floor group_rows by book other r = turned_choice floor group_rows book other.groups r.groups by ∙ ap (choice floor group_rows by) (book_is book other r)

pub same_work : (made : Choice) (floor : ℕ) (book other : Book) → IsReordered book other → choice_work made floor book ≡ choice_work made floor other
same_work made floor book other r = turned_work floor 0 book other.groups r.groups made ∙ ap (choice_work made floor) (book_is book other r)

pub same_sources : (book other : Book) → IsReordered book other → flush_sources book ≡ flush_sources other
same_sources book other r = same_flush 0 0 book other.groups r.groups ∙ ap flush_sources (book_is book other r)

pub same_states : (book other : Book) → IsReordered book other → (id : ℕ) → state_of book.groups id ≡ state_of other.groups id
same_states book other r id = each book.groups other.groups r.groups
  where
    each : (gs hs : List Group) → AllZip IsGroupReordered gs hs → state_of gs id ≡ state_of hs id
    each [] [] zip = refl
    each [] (h ∷ hs) zip = absurd zip
    each (g ∷ gs) [] zip = absurd zip
    each (g ∷ gs) (h ∷ hs) zip = rw (zip.0.0, same_state g.content h.content zip.0.1, each gs hs zip.1) refl

-- ---- groups that no claim has

-- the groups of these ids are the same in both
versions_stay : (sources : List ℕ) (gs hs : List Group) → AllZip (λ (g h : Group). IsGroupReordered g h × (is_id_of sources g ≡ true → h ≡ g)) gs hs → versions_of sources hs ≡ versions_of sources gs
versions_stay sources [] [] zip = refl
versions_stay sources [] (h ∷ hs) zip = absurd zip
versions_stay sources (g ∷ gs) [] zip = absurd zip
versions_stay sources (g ∷ gs) (h ∷ hs) zip = step (is_id_of sources g) (is_id_of sources h) (same_source sources g h zip.0.0) zip.0.1 (versions_stay sources gs hs zip.1)
  where
    step : (t u : Bool) → t ≡ u → (t ≡ true → h ≡ g) → versions_of sources hs ≡ versions_of sources gs
        → frozen (cond u (h ∷ filter (is_id_of sources) hs) (filter (is_id_of sources) hs)) ≡ frozen (cond t (g ∷ filter (is_id_of sources) gs) (filter (is_id_of sources) gs))
    step true true both same rest = ap (λ (x : Group). frozen_in x.content ++ frozen (filter (is_id_of sources) hs)) (same refl) ∙ ap (λ l. frozen_in g.content ++ l) rest
    step true false both same rest = cc
    step false true both same rest = cc
    step false false both same rest = rest

pub reordered_apart : (book other : Book) → AllZip (λ (g h : Group). IsGroupReordered g h × (is_claimed book.claims g ≡ true → h ≡ g)) book.groups other.groups
    → other.buffer ≡ book.buffer → other.claims ≡ book.claims → other.next ≡ book.next → IsReordered book other
reordered_apart book other zip buffer claims next = record {
  groups = zip_weaker (λ (g h : Group). IsGroupReordered g h × (is_claimed book.claims g ≡ true → h ≡ g)) IsGroupReordered (λ g h is. is.0) book.groups other.groups zip;
  buffer = buffer;
  claims = claims;
  next = next;
  lent = λ k d inside. let sources : List ℕ = (get_or book.claims k d).sources in
      versions_stay sources book.groups other.groups
      (zip_weaker (λ (g h : Group). IsGroupReordered g h × (is_claimed book.claims g ≡ true → h ≡ g)) (λ (g h : Group). IsGroupReordered g h × (is_id_of sources g ≡ true → h ≡ g))
      (λ g h is. (is.0, λ named. is.1 (list_any-some (λ (claim : Claim). is_id_of claim.sources g) book.claims k d inside named))) book.groups other.groups zip);
}
