-- The events of movers do not see the order of packed versions.
use Rattle.std.proofs.Common.{◌≡◌, ℕ, ◌+◌, Bool, true, false, cond, List, [], ◌∷◌, map, length, not, Option, Some, None, refl, sym, ap, subst, ◌∙◌, arith}
use Rattle.std.specs.List.{AllZip, list_any}
use Rattle.std.specs.List.Sorted.{IsPermutation}
use Rattle.std.proofs.lemmas.List.Elements.{AllZip-push, filter_agree}
use Rattle.std.proofs.lemmas.List.Sorted.{length_permutation, list_any-IsPermutation}
use Rattle.cs_model.specs.declared.work.Actor.{Actor}
use Rattle.group_book.specs.Book.{Version, Ending, Group, Choice, Claim, Book, total, deleted, is_tombstone}
use Rattle.group_book.specs.Book.Content.{Compressed, Invisible, Tombstone}
use Rattle.group_book.specs.Book.Choice.{Compress, Flush, Rebuild, Merge, Settle, Clear, Idle}
use Rattle.group_book.specs.Choices.{after_choice, flush_sources}
use Rattle.group_book.specs.Orders.{IsGroupReordered}
use Rattle.group_book.specs.Turns.{ends, is_id_of, is_claimed, is_fresh, versions_of, entries_for, claim_of, after_claim, after_flush_claim, without_fresh, made_of, spent_of, without_entries, replaced_group, is_none_left, after_install, flushed, with_compressed, flushed_group, after_flush, after_work, after_release, after_clear, settled, settled_group, after_settle, closed, after_close}
use Rattle.group_book.proofs.Zips.{zip_mapped, zip_filter}
use Rattle.book_orders.specs.Shuffled.{IsClaimShuffled, IsShuffled}
use Rattle.book_orders.proofs.Lists.{zip_changed}
use Rattle.book_orders.proofs.Contents.{same_tombstone, same_source, same_fresh, same_counts, versions_moved, compressed_moved, closed_moved, either_moved}
use Rattle.book_orders.proofs.Shuffled.{same_claimed, kept_claims, made_moved}
use Rattle.book_orders.proofs.Chosen.{shuffled_sources}
use Rattle.book_orders.proofs.Commits.{contents_shuffled}

-- ---- a claim

module _ (by : Actor) (choice : Choice) (sources : List ℕ) (floor : ℕ) (book other : Book) (r : IsShuffled book other) where
  lent_moved : IsPermutation (versions_of sources book.groups) (versions_of sources other.groups)
  lent_moved = versions_moved sources book.groups other.groups r.groups

  same_entries : entries_for other.buffer (versions_of sources other.groups) ≡ entries_for book.buffer (versions_of sources book.groups)
  same_entries = ap (λ (buffer : List Ending). entries_for buffer (versions_of sources other.groups)) r.buffer
      ∙ filter_agree (λ entry. list_any (ends book.buffer entry) (versions_of sources other.groups)) (λ entry. list_any (ends book.buffer entry) (versions_of sources book.groups))
      (λ entry. sym (list_any-IsPermutation (ends book.buffer entry) (versions_of sources book.groups) (versions_of sources other.groups) lent_moved)) book.buffer

  lends_shuffled : (fresh drawn : Option ℕ) → drawn ≡ fresh → IsClaimShuffled (claim_of by choice sources fresh floor book) (claim_of by choice sources drawn floor other)
  lends_shuffled fresh drawn same = (
    versions_of sources other.groups,
    lent_moved,
    ap (λ (id : Option ℕ). claim_of by choice sources id floor other) same
        ∙ ap (λ (entries : List Ending). record { actor = by; choice = choice; sources = sources; fresh = fresh; floor = floor; lent = versions_of sources other.groups; entries = entries }) same_entries,
  )

  claim_shuffled : IsShuffled (after_claim by choice sources floor book) (after_claim by choice sources floor other)
  claim_shuffled = record {
    groups = AllZip-push IsGroupReordered book.groups other.groups (record { id = book.next; content = Invisible }) (record { id = other.next; content = Invisible }) r.groups (r.next, refl);
    buffer = r.buffer;
    claims = (lends_shuffled (Some book.next) (Some other.next) (ap Some r.next), r.claims);
    next = ap (λ n. n + 1) r.next;
  }

flush_claim_shuffled : (by : Actor) (sources : List ℕ) (floor : ℕ) (book other : Book) → IsShuffled book other → IsShuffled (after_flush_claim by sources floor book) (after_flush_claim by sources floor other)
flush_claim_shuffled by sources floor book other r = record {
  groups = r.groups;
  buffer = r.buffer;
  claims = (lends_shuffled by Flush sources floor book other r None None refl, r.claims);
  next = r.next;
}

-- ---- settle, clear and close

settle_shuffled : (floor : ℕ) (book other : Book) → IsShuffled book other → IsShuffled (after_settle floor book) (after_settle floor other)
settle_shuffled floor book other r = record {
  groups = zip_changed IsGroupReordered (settled_group floor book.claims) (settled_group floor other.claims) (λ g h is. (
    is.0,
    either_moved (is_claimed book.claims g) (is_claimed other.claims h) g.content (with_compressed (map (settled floor)) g.content) h.content (with_compressed (map (settled floor)) h.content)
        (same_claimed book.claims other.claims r.claims g h is.0) is.1 (compressed_moved (settled floor) g.content h.content is.1),
  )) book.groups other.groups r.groups;
  buffer = r.buffer;
  claims = r.claims;
  next = r.next;
}

clear_shuffled : (book other : Book) → IsShuffled book other → IsShuffled (after_clear book) (after_clear other)
clear_shuffled book other r = record {
  groups = zip_filter IsGroupReordered (λ (group : Group). not (is_tombstone group.content)) (λ (group : Group). not (is_tombstone group.content)) (λ g h is. ap not (same_tombstone g.content h.content is.1)) book.groups other.groups r.groups;
  buffer = r.buffer;
  claims = r.claims;
  next = r.next;
}

pub close_shuffled : (book other : Book) → IsShuffled book other → IsShuffled (after_close book) (after_close other)
close_shuffled book other r = contents_shuffled closed closed_moved book other r

-- the first event of a turn
pub choice_shuffled : (made : Choice) (floor : ℕ) (by : Actor) (book other : Book) → IsShuffled book other → IsShuffled (after_choice made floor by book) (after_choice made floor by other)
choice_shuffled (Compress source) floor by book other r = claim_shuffled by (Compress source) (source ∷ []) floor book other r
choice_shuffled Flush floor by book other r =
    subst (λ (sources : List ℕ). IsShuffled (after_flush_claim by (flush_sources book) floor book) (after_flush_claim by sources floor other)) (shuffled_sources book other r)
    (flush_claim_shuffled by (flush_sources book) floor book other r)
choice_shuffled (Rebuild source) floor by book other r = claim_shuffled by (Rebuild source) (source ∷ []) floor book other r
choice_shuffled (Merge first second) floor by book other r = claim_shuffled by (Merge first second) (first ∷ second ∷ []) floor book other r
choice_shuffled Settle floor by book other r = settle_shuffled floor book other r
choice_shuffled Clear floor by book other r = clear_shuffled book other r
choice_shuffled Idle floor by book other r = r

-- ---- an install, and a release

fresh_kept : (fresh : Option ℕ) (gs hs : List Group) → AllZip IsGroupReordered gs hs → AllZip IsGroupReordered (without_fresh fresh gs) (without_fresh fresh hs)
fresh_kept fresh gs hs zip = zip_filter IsGroupReordered (λ group. not (is_fresh fresh group)) (λ group. not (is_fresh fresh group)) (λ g h is. ap not (same_fresh fresh g h is)) gs hs zip

none_same : (xs ys : List Version) → length ys ≡ length xs → is_none_left xs ≡ is_none_left ys
none_same [] [] e = refl
none_same [] (y ∷ ys) e = absurd (omega (arith, e))
none_same (x ∷ xs) [] e = absurd (omega (arith, e))
none_same (x ∷ xs) (y ∷ ys) e = refl

-- a claim, and the same one where what it lent stands in another order
module _ (claim : Claim) (moved : List Version) (p : IsPermutation claim.lent moved) (book other : Book) (r : IsShuffled book other) where
  abbrev turned : Claim
  turned = record claim { lent = moved }

  replaced_shuffled : (g h : Group) → IsGroupReordered g h → IsGroupReordered (replaced_group claim.sources claim.fresh (made_of claim) g) (replaced_group claim.sources claim.fresh (made_of turned) h)
  replaced_shuffled g h is = (
    is.0,
    either_moved (is_id_of claim.sources g) (is_id_of claim.sources h) (Tombstone (total g.content) (deleted g.content)) (cond (is_fresh claim.fresh g) (Compressed (made_of claim)) g.content)
        (Tombstone (total h.content) (deleted h.content)) (cond (is_fresh claim.fresh h) (Compressed (made_of turned)) h.content)
        (same_source claim.sources g h is) (same_counts g.content h.content is.1)
        (either_moved (is_fresh claim.fresh g) (is_fresh claim.fresh h) (Compressed (made_of claim)) g.content (Compressed (made_of turned)) h.content
        (same_fresh claim.fresh g h is) (made_of turned, made_moved claim moved p, refl) is.1),
  )

  left_shuffled : (t u : Bool) → t ≡ u → AllZip IsGroupReordered (cond t (without_fresh claim.fresh book.groups) book.groups) (cond u (without_fresh claim.fresh other.groups) other.groups)
  left_shuffled true true same = fresh_kept claim.fresh book.groups other.groups r.groups
  left_shuffled true false same = cc
  left_shuffled false true same = cc
  left_shuffled false false same = r.groups

  same_left : is_none_left (made_of claim) ≡ is_none_left (made_of turned)
  same_left = none_same (made_of claim) (made_of turned) (length_permutation (made_of claim) (made_of turned) (made_moved claim moved p))

  install_shuffled : IsShuffled (after_install claim book) (after_install turned other)
  install_shuffled = record {
    groups = zip_changed IsGroupReordered (replaced_group claim.sources claim.fresh (made_of claim)) (replaced_group claim.sources claim.fresh (made_of turned)) replaced_shuffled
        (cond (is_none_left (made_of claim)) (without_fresh claim.fresh book.groups) book.groups) (cond (is_none_left (made_of turned)) (without_fresh claim.fresh other.groups) other.groups)
        (left_shuffled (is_none_left (made_of claim)) (is_none_left (made_of turned)) same_left);
    buffer = ap (without_entries (spent_of claim)) r.buffer;
    claims = kept_claims claim.actor book.claims other.claims r.claims;
    next = r.next;
  }

  flushed_shuffled : (g h : Group) → IsGroupReordered g h → IsGroupReordered (flushed_group claim.sources book.buffer claim.entries g) (flushed_group claim.sources book.buffer claim.entries h)
  flushed_shuffled g h is = (
    is.0,
    either_moved (is_id_of claim.sources g) (is_id_of claim.sources h) (with_compressed (map (flushed book.buffer claim.entries)) g.content) g.content
        (with_compressed (map (flushed book.buffer claim.entries)) h.content) h.content
        (same_source claim.sources g h is) (compressed_moved (flushed book.buffer claim.entries) g.content h.content is.1) is.1,
  )

  flush_shuffled : IsShuffled (after_flush claim book) (after_flush turned other)
  flush_shuffled = record {
    groups = subst (λ (buffer : List Ending). AllZip IsGroupReordered (map (flushed_group claim.sources book.buffer claim.entries) book.groups) (map (flushed_group claim.sources buffer claim.entries) other.groups)) (sym r.buffer)
        (zip_mapped IsGroupReordered (flushed_group claim.sources book.buffer claim.entries) flushed_shuffled book.groups other.groups r.groups);
    buffer = ap (without_entries claim.entries) r.buffer;
    claims = kept_claims claim.actor book.claims other.claims r.claims;
    next = r.next;
  }

  work_turned : (kind : Choice) → IsShuffled (after_work kind claim book) (after_work kind turned other)
  work_turned (Compress source) = install_shuffled
  work_turned Flush = flush_shuffled
  work_turned (Rebuild source) = install_shuffled
  work_turned (Merge first second) = install_shuffled
  work_turned Settle = r
  work_turned Clear = r
  work_turned Idle = r

  release_turned : IsShuffled (after_release claim book) (after_release turned other)
  release_turned = record {
    groups = fresh_kept claim.fresh book.groups other.groups r.groups;
    buffer = r.buffer;
    claims = kept_claims claim.actor book.claims other.claims r.claims;
    next = r.next;
  }

-- the install of any kind
pub work_shuffled : (claim lent : Claim) → IsClaimShuffled claim lent → (book other : Book) → IsShuffled book other → IsShuffled (after_work claim.choice claim book) (after_work lent.choice lent other)
work_shuffled claim lent is book other r = subst (λ (z : Claim). IsShuffled (after_work claim.choice claim book) (after_work z.choice z other)) (sym is.2) (work_turned claim is.0 is.1 book other r claim.choice)

pub release_shuffled : (claim lent : Claim) → IsClaimShuffled claim lent → (book other : Book) → IsShuffled book other → IsShuffled (after_release claim book) (after_release lent other)
release_shuffled claim lent is book other r = subst (λ (z : Claim). IsShuffled (after_release claim book) (after_release z other)) (sym is.2) (release_turned claim is.0 is.1 book other r)
