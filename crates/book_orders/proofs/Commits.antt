-- A commit does not see the order of packed versions.
use Rattle.std.proofs.Common.{◌≡◌, ℕ, ◌+◌, Bool, true, false, cond, List, [], ◌∷◌, map, length, refl, ap, ◌∙◌}
use Rattle.std.specs.List.{list_any}
use Rattle.std.proofs.lemmas.List.Elements.{AllZip-push}
use Rattle.cs_types.specs.declared.Key.{Key}
use Rattle.group_book.specs.Book.{Version, Ending, Content, Group, Book, opened, is_opened}
use Rattle.group_book.specs.Book.Content.{Compressed}
use Rattle.group_book.specs.Commits.{Sizes, ended_by, with_opened, with_endings, entries_by, after_ends, direct_parts, new_version, with_group, after_loads, store_of, with_version, stored, after_rest, after_commit, draws_past}
use Rattle.group_book.specs.Orders.{IsContentReordered, IsGroupReordered}
use Rattle.group_book.proofs.Orders.{content_itself, same_opened}
use Rattle.group_book.proofs.Zips.{zip_any, zip_mapped}
use Rattle.book_orders.specs.Shuffled.{IsShuffled}
use Rattle.book_orders.proofs.Contents.{opened_stays, opened_moved, version_moved}

-- both with their groups' contents changed alike
pub contents_shuffled : (f : Content → Content) → ((c d : Content) → IsContentReordered c d → IsContentReordered (f c) (f d)) → (book other : Book) → IsShuffled book other
    → IsShuffled (record book { groups = map (λ (group : Group). record group { content = f group.content }) book.groups }) (record other { groups = map (λ (group : Group). record group { content = f group.content }) other.groups })
contents_shuffled f moved book other r = record {
  groups = zip_mapped IsGroupReordered (λ (group : Group). record group { content = f group.content }) (λ g h is. (is.0, moved g.content h.content is.1)) book.groups other.groups r.groups;
  buffer = r.buffer;
  claims = r.claims;
  next = r.next;
}

ends_shuffled : (replaced : List Key) (c : ℕ) (book other : Book) → IsShuffled book other → IsShuffled (after_ends replaced c book) (after_ends replaced c other)
ends_shuffled replaced c book other r =
    let ended = contents_shuffled (with_opened (map (ended_by replaced c))) (opened_moved (map (ended_by replaced c))) book other r in
    record {
      groups = ended.groups;
      buffer = ap (λ (buffer : List Ending). with_endings buffer (entries_by (opened other.groups) replaced c)) r.buffer
          ∙ ap (λ (versions : List Version). with_endings book.buffer (entries_by versions replaced c)) (opened_stays book.groups other.groups r.groups);
      claims = r.claims;
      next = r.next;
    }

-- a group under the next id, of the same content
group_shuffled : (content : Content) (book other : Book) → IsShuffled book other → IsShuffled (with_group content book) (with_group content other)
group_shuffled content book other r = record {
  groups = AllZip-push IsGroupReordered book.groups other.groups (record { id = book.next; content = content }) (record { id = other.next; content = content }) r.groups (r.next, content_itself content);
  buffer = r.buffer;
  claims = r.claims;
  next = ap (λ n. n + 1) r.next;
}

loads_shuffled : (c : ℕ) (parts : List (List Key)) (book other : Book) → IsShuffled book other → IsShuffled (after_loads c parts book) (after_loads c parts other)
loads_shuffled c [] book other r = r
loads_shuffled c (part ∷ parts) book other r =
    let content : Content = Compressed (map (new_version c) part) in
    loads_shuffled c parts (with_group content book) (with_group content other) (group_shuffled content book other r)

-- the book whose open store has a version more, and the book with a new store
abbrev filled : ℕ → Version → Book → Book
filled group_rows version book = record book { groups = map (λ (group : Group). record group { content = with_version group_rows version group.content }) book.groups }

abbrev grown : ℕ → Version → Book → Book
grown group_rows version book = with_group (store_of group_rows (version ∷ [])) book

stored_shuffled : (group_rows : ℕ) (version : Version) (book other : Book) → IsShuffled book other → IsShuffled (stored group_rows version book) (stored group_rows version other)
stored_shuffled group_rows version book other r =
    step (list_any (λ (group : Group). is_opened group.content) book.groups) (list_any (λ (group : Group). is_opened group.content) other.groups)
    (zip_any IsGroupReordered (λ (group : Group). is_opened group.content) (λ (group : Group). is_opened group.content) (λ g h is. same_opened g.content h.content is.1) book.groups other.groups r.groups)
  where
    step : (t u : Bool) → t ≡ u → IsShuffled (cond t (filled group_rows version book) (grown group_rows version book)) (cond u (filled group_rows version other) (grown group_rows version other))
    step true true same = contents_shuffled (with_version group_rows version) (version_moved group_rows version) book other r
    step true false same = cc
    step false true same = cc
    step false false same = group_shuffled (store_of group_rows (version ∷ [])) book other r

rest_shuffled : (group_rows c : ℕ) (keys : List Key) (book other : Book) → IsShuffled book other → IsShuffled (after_rest group_rows c keys book) (after_rest group_rows c keys other)
rest_shuffled group_rows c [] book other r = r
rest_shuffled group_rows c (key ∷ keys) book other r =
    let version : Version = new_version c key in
    rest_shuffled group_rows c keys (stored group_rows version book) (stored group_rows version other) (stored_shuffled group_rows version book other r)

pub commit_shuffled : (sizes : Sizes) (c : ℕ) (replaced inserted : List Key) (book other : Book) → IsShuffled book other → IsShuffled (after_commit sizes c replaced inserted book) (after_commit sizes c replaced inserted other)
commit_shuffled sizes c replaced inserted book other r =
    let parts : List (List Key) × List Key = direct_parts (length inserted) sizes inserted in
    let ended : Book = after_ends replaced c book in
    let ended_other : Book = after_ends replaced c other in
    rest_shuffled sizes.group_rows c parts.1 (after_loads c parts.0 ended) (after_loads c parts.0 ended_other)
    (loads_shuffled c parts.0 ended ended_other (ends_shuffled replaced c book other r))

-- both draw the same ids
pub shuffled_draws : (book other made made_other : Book) → IsShuffled book other → IsShuffled made made_other → draws_past book made ≡ draws_past other made_other
shuffled_draws book other made made_other r s = rw (r.next, s.next) refl
