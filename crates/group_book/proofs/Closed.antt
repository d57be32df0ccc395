-- A close keeps the book one of the changes.
use Rattle.std.proofs.Common.{◌≡◌, ℕ, true, false, List, [], ◌∷◌, ◌++◌, map, refl, sym, ◌∙◌, arith}
use Rattle.std.specs.List.{AllByRecursion, list_any}
use Rattle.std.specs.List.Sorted.{IsPermutation}
use Rattle.std.proofs.lemmas.List.Elements.{All-map}
use Rattle.std.proofs.lemmas.List.Sorted.{IsPermutation-refl, IsPermutation-trans, IsPermutation-append_right}
use Rattle.cs_model.specs.Changes.{Change}
use Rattle.group_book.specs.Book.{Content, Group, Claim, Book, opened, opened_in, frozen, frozen_in, is_opened, is_invisible}
use Rattle.group_book.specs.Book.Content.{Opened, Closed, Compressed, Invisible, Tombstone}
use Rattle.group_book.specs.Turns.{is_fresh, closed, after_close}
use Rattle.group_book.specs.Stocks.{stock_of, IsStockOf}
use Rattle.group_book.specs.Invariant.{IsSized, IsClaim, IsBookOf}
use Rattle.group_book.proofs.Lists.{All-in}
use Rattle.group_book.proofs.Move.{stock_moved}
use Rattle.group_book.proofs.Groups.{behind, behind_kept}
use Rattle.group_book.proofs.Events.{moved_to}
use Rattle.group_book.proofs.Since.{steady_shut}
use Rattle.group_book.proofs.Steady.{changed, KeepsGroup, groups_changed, claim_changed, makers_same}

abbrev content_closed : Group → Content
content_closed g = closed g.content

-- ---- the versions

none_opened : (gs : List Group) → opened (map (changed content_closed) gs) ≡ []
none_opened [] = refl
none_opened (g ∷ gs) = step g.content (none_opened gs)
  where
    step : (content : Content) → opened (map (changed content_closed) gs) ≡ [] → opened_in (closed content) ++ opened (map (changed content_closed) gs) ≡ []
    step (Opened versions) rest = rest
    step (Closed versions) rest = rest
    step (Compressed versions) rest = rest
    step Invisible rest = rest
    step (Tombstone versions ends) rest = rest

closed_moved : (gs : List Group) → IsPermutation (frozen gs ++ opened gs) (frozen (map (changed content_closed) gs))
closed_moved [] = IsPermutation-refl []
closed_moved (g ∷ gs) = step g.content (closed_moved gs)
  where
    step : (content : Content) → IsPermutation (frozen gs ++ opened gs) (frozen (map (changed content_closed) gs))
        → IsPermutation ((frozen_in content ++ frozen gs) ++ (opened_in content ++ opened gs)) (frozen_in (closed content) ++ frozen (map (changed content_closed) gs))
    step (Opened versions) rest = IsPermutation-trans (frozen gs ++ (versions ++ opened gs)) (versions ++ (frozen gs ++ opened gs)) (versions ++ frozen (map (changed content_closed) gs))
        (behind (frozen gs) versions (opened gs)) (IsPermutation-append_right versions (frozen gs ++ opened gs) (frozen (map (changed content_closed) gs)) rest)
    step (Closed versions) rest = behind_kept versions (frozen gs) (opened gs) (frozen (map (changed content_closed) gs)) rest
    step (Compressed versions) rest = behind_kept versions (frozen gs) (opened gs) (frozen (map (changed content_closed) gs)) rest
    step Invisible rest = rest
    step (Tombstone versions ends) rest = rest

close_stock : (book : Book) (cs : List Change) (floor : ℕ) → IsStockOf (stock_of book) cs floor → IsStockOf (stock_of (after_close book)) cs floor
close_stock book cs floor j = moved_to cs floor _ (stock_of (after_close book)) (sym (none_opened book.groups)) (closed_moved book.groups) refl
    (stock_moved (stock_of book) cs floor [] (opened book.groups) j refl)

-- ---- the groups and the claims

closed_sized : (group_rows : ℕ) (content : Content) → IsSized group_rows content → IsSized group_rows (closed content)
closed_sized group_rows (Opened versions) s = (s.0, (let lt = s.1 in omega (arith, lt)), s.2)
closed_sized group_rows (Closed versions) s = s
closed_sized group_rows (Compressed versions) s = s
closed_sized group_rows Invisible s = s
closed_sized group_rows (Tombstone versions ends) s = s

none_open : (content : Content) → is_opened (closed content) ≡ true → is_opened content ≡ true
none_open (Opened versions) is = refl
none_open (Closed versions) is = is
none_open (Compressed versions) is = is
none_open Invisible is = is
none_open (Tombstone versions ends) is = is

keeps_closed : (group_rows : ℕ) (gs : List Group) → AllByRecursion (KeepsGroup content_closed group_rows) gs
keeps_closed group_rows [] = tt
keeps_closed group_rows (g ∷ gs) = (record { opened = none_open g.content; sized = closed_sized group_rows g.content }, keeps_closed group_rows gs)

stays_closed : (content : Content) → is_opened content ≡ false → closed content ≡ content
stays_closed (Opened versions) is = cc
stays_closed (Closed versions) is = refl
stays_closed (Compressed versions) is = refl
stays_closed Invisible is = refl
stays_closed (Tombstone versions ends) is = refl

same_invisible : (content : Content) → is_invisible (closed content) ≡ is_invisible content
same_invisible (Opened versions) = refl
same_invisible (Closed versions) = refl
same_invisible (Compressed versions) = refl
same_invisible Invisible = refl
same_invisible (Tombstone versions ends) = refl

module _ (group_rows : ℕ) (book : Book) (cs : List Change) (floor : ℕ) (j : IsBookOf group_rows book cs floor) where
  abbrev IsMade : Group → Type 0
  IsMade g = is_invisible g.content ≡ true → list_any (λ (claim : Claim). is_fresh claim.fresh g) book.claims ≡ true

  pub close_is : IsBookOf group_rows (after_close book) cs floor
  close_is = record {
    stock = close_stock book cs floor j.stock;
    groups = groups_changed content_closed group_rows book (keeps_closed group_rows book.groups) j.groups;
    claims = record {
      actors = j.claims.actors;
      sources = j.claims.sources;
      fresh = j.claims.fresh;
      made = All-map IsMade (changed content_closed) book.groups
          (All-in IsMade (λ (g : Group). IsMade (changed content_closed g)) book.groups (λ g _ made is. makers_same content_closed g book.claims ∙ made (sym (same_invisible g.content) ∙ is)) j.claims.made);
      each = All-in (IsClaim group_rows book cs floor) (IsClaim group_rows (after_close book) cs floor) book.claims (λ claim _ c. claim_changed content_closed group_rows book cs floor claim (steady_shut content_closed (λ g. stays_closed g.content) group_rows book cs floor claim c) c) j.claims.each;
    };
  }
