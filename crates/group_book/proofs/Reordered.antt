-- Installs and direct loads, whose new packed groups may have their versions in any order.
use Rattle.std.proofs.Common.{◌≡◌, ℕ, ◌<◌, ◌≤◌, ◌+◌, Bool, true, false, ◌||◌, cond, List, [], ◌∷◌, map, filter, length, not, refl, ap, subst, arith}
use Rattle.std.specs.Prelude.{◌==◌}
use Rattle.std.specs.List.{AllByRecursion, AllZip, list_any, Contains}
use Rattle.std.specs.List.Sorted.{IsPermutation}
use Rattle.std.proofs.lemmas.Bool.Decides.{nat_tests}
use Rattle.std.proofs.lemmas.List.Elements.{AllZip-push, recursion_from_All, All-contains, All-contains_itself}
use Rattle.std.proofs.lemmas.List.Sorted.{IsPermutation-map, length_permutation}
use Rattle.cs_types.specs.declared.Key.{Key}
use Rattle.cs_model.specs.Changes.{Change}
use Rattle.group_book.specs.Book.{Version, Content, Group, Claim, Book, total, deleted, is_opened, is_invisible}
use Rattle.group_book.specs.Book.Content.{Compressed, Invisible, Tombstone}
use Rattle.group_book.specs.Turns.{is_id_of, is_claimed, is_fresh, is_by, without_claim, without_fresh, made_of, replaced_group, is_none_left, installed_with, after_install}
use Rattle.group_book.specs.Commits.{Sizes, after_ends, direct_parts, new_version, with_group, after_loads, store_of, with_version, stored, after_rest, after_commit}
use Rattle.group_book.specs.Invariant.{may_be_source, IsThere, IsClaim, IsBookOf}
use Rattle.group_book.specs.Orders.{IsContentReordered, IsGroupReordered, IsReordered}
use Rattle.group_book.proofs.Lists.{All-in, all-filter, list_any-found, list_any-none, weaker}
use Rattle.group_book.proofs.Events.{source_is}
use Rattle.group_book.proofs.Grown.{there_low}
use Rattle.group_book.proofs.Orders.{content_cases, content_itself, reordered_apart, same_opened}
use Rattle.group_book.proofs.Zips.{zip_itself, zip_any, zip_maps, zip_mapped}

-- groups are reordered, but those that a claim has are the same
abbrev IsApart : List Claim → Group → Group → Type 0
IsApart claims g h = IsGroupReordered g h × (is_claimed claims g ≡ true → h ≡ g)

apart_itself : (claims : List Claim) (g : Group) → IsApart claims g g
apart_itself claims g = ((refl, content_itself g.content), (λ _. refl))

-- ---- an install

none_same : (xs ys : List Version) → length ys ≡ length xs → is_none_left xs ≡ is_none_left ys
none_same [] [] e = refl
none_same [] (y ∷ ys) e = absurd (omega (arith, e))
none_same (x ∷ xs) [] e = absurd (omega (arith, e))
none_same (x ∷ xs) (y ∷ ys) e = refl

-- fewer claims have no more groups
claimed_before : (q : Claim → Bool) (claims : List Claim) (g : Group) → is_claimed (filter q claims) g ≡ true → is_claimed claims g ≡ true
claimed_before q [] g h = h
claimed_before q (c ∷ cs) g h = step (q c) (is_id_of c.sources g) refl h (claimed_before q cs g)
  where
    step : (t u : Bool) → is_id_of c.sources g ≡ u → is_claimed (cond t (c ∷ filter q cs) (filter q cs)) g ≡ true → (is_claimed (filter q cs) g ≡ true → is_claimed cs g ≡ true) → (u || is_claimed cs g) ≡ true
    step t true is h rest = refl
    step true false is h rest = rest (rw is at h)
    step false false is h rest = rest h

module _ (group_rows : ℕ) (book : Book) (cs : List Change) (floor : ℕ) (claim : Claim) (versions : List Version) (j : IsBookOf group_rows book cs floor) (in_list : Contains book.claims claim) (moved : IsPermutation (made_of claim) versions) where
  c : IsClaim group_rows book cs floor claim
  c = All-contains (IsClaim group_rows book cs floor) book.claims claim j.claims.each in_list

  -- the group that the claim makes is invisible, and what a claim has is not
  abbrev Named : Group → Type 0
  Named g = (is_fresh claim.fresh g ≡ true → is_invisible g.content ≡ true) × (is_claimed book.claims g ≡ true → is_invisible g.content ≡ false)

  sourced : (g : Group) → Contains book.groups g → is_claimed book.claims g ≡ true → is_invisible g.content ≡ false
  sourced g in_groups is =
      let found = list_any-found (λ (other : Claim). is_id_of other.sources g) (IsClaim group_rows book cs floor) book.claims (recursion_from_All (IsClaim group_rows book cs floor) book.claims j.claims.each) is in
      (source_is found.0.choice g.content (All-contains (λ (h : Group). is_id_of found.0.sources h ≡ true → may_be_source found.0.choice h.content ≡ true) book.groups g found.2.sources in_groups found.1)).1

  named : AllByRecursion Named book.groups
  named = recursion_from_All Named book.groups (All-in (Contains book.groups) Named book.groups (λ g in_groups _. (
    All-contains (λ (h : Group). is_fresh claim.fresh h ≡ true → is_invisible h.content ≡ true) book.groups g c.fresh in_groups,
    sourced g in_groups,
  )) (All-contains_itself book.groups))

  abbrev kept : List Claim
  kept = without_claim claim.actor book.claims

  abbrev made_content : List Version → Bool → Bool → Group → Content
  made_content vs s f g = cond s (Tombstone (total g.content) (deleted g.content)) (cond f (Compressed vs) g.content)

  group_step : (g : Group) → Named g → (s f : Bool) → is_fresh claim.fresh g ≡ f → IsApart kept (record g { content = made_content (made_of claim) s f g }) (record g { content = made_content versions s f g })
  group_step g n true f f_is = apart_itself kept (record g { content = Tombstone (total g.content) (deleted g.content) })
  group_step g n false true f_is = ((refl, (versions, moved, refl)), (λ is. absurd (cc (n.0 f_is, n.1 (claimed_before (λ other. not (is_by claim.actor other)) book.claims g is)))))
  group_step g n false false f_is = apart_itself kept g

  groups_step : (gs : List Group) → AllByRecursion Named gs → AllZip (IsApart kept) (map (replaced_group claim.sources claim.fresh (made_of claim)) gs) (map (replaced_group claim.sources claim.fresh versions) gs)
  groups_step gs all = zip_maps (IsApart kept) (replaced_group claim.sources claim.fresh (made_of claim)) (replaced_group claim.sources claim.fresh versions) gs
      (weaker Named (λ g. IsApart kept (replaced_group claim.sources claim.fresh (made_of claim) g) (replaced_group claim.sources claim.fresh versions g)) gs (λ g n. group_step g n (is_id_of claim.sources g) (is_fresh claim.fresh g) refl) all)

  named_step : (t : Bool) → AllByRecursion Named (cond t (without_fresh claim.fresh book.groups) book.groups)
  named_step true = all-filter Named Named (λ g. not (is_fresh claim.fresh g)) book.groups (λ g n _. n) named
  named_step false = named

  pub install_reordered : IsReordered (after_install claim book) (installed_with versions claim book)
  install_reordered = reordered_apart (after_install claim book) (installed_with versions claim book)
      (subst (λ (t : Bool). AllZip (IsApart kept) (after_install claim book).groups (map (replaced_group claim.sources claim.fresh versions) (cond t (without_fresh claim.fresh book.groups) book.groups)))
      (none_same (made_of claim) versions (length_permutation (made_of claim) versions moved))
      (groups_step (cond (is_none_left (made_of claim)) (without_fresh claim.fresh book.groups) book.groups) (named_step (is_none_left (made_of claim)))))
      refl refl refl

-- ---- direct loads

-- two books that differ in the order of groups' versions alone that no claim has
record AreApart (first second : Book) : Type 0 where
  groups : AllZip (IsApart first.claims) first.groups second.groups
  buffer : second.buffer ≡ first.buffer
  claims : second.claims ≡ first.claims
  next : second.next ≡ first.next

-- no claim has a group from this id on
abbrev IsFreeFrom : ℕ → Book → Type 0
IsFreeFrom low book = (id : ℕ) (content : Content) → low ≤ id → is_claimed book.claims (record { id = id; content = content }) ≡ false

loads_apart : (c low : ℕ) (parts moved : List (List Key)) → AllZip IsPermutation parts moved → (first second : Book) → IsFreeFrom low first → low ≤ first.next → AreApart first second → AreApart (after_loads c parts first) (after_loads c moved second)
loads_apart c low [] [] zip first second free le a = a
loads_apart c low [] (q ∷ qs) zip first second free le a = absurd zip
loads_apart c low (p ∷ ps) [] zip first second free le a = absurd zip
loads_apart c low (p ∷ ps) (q ∷ qs) zip first second free le a =
    loads_apart c low ps qs zip.1 (with_group (Compressed (map (new_version c) p)) first) (with_group (Compressed (map (new_version c) q)) second) free (omega (arith, le)) record {
      groups = AllZip-push (IsApart first.claims) first.groups second.groups (record { id = first.next; content = Compressed (map (new_version c) p) }) (record { id = second.next; content = Compressed (map (new_version c) q) }) a.groups
          ((a.next, (map (new_version c) q, IsPermutation-map (new_version c) p q zip.0, refl)), (λ is. absurd (cc (is, free first.next (Compressed (map (new_version c) p)) le))));
      buffer = a.buffer;
      claims = a.claims;
      next = ap (λ n. n + 1) a.next;
    }

version_moved : (group_rows : ℕ) (version : Version) (content other : Content) → IsContentReordered content other → IsContentReordered (with_version group_rows version content) (with_version group_rows version other)
version_moved group_rows version content other is = content_cases (λ c d. IsContentReordered (with_version group_rows version c) (with_version group_rows version d)) (λ c. content_itself (with_version group_rows version c)) (λ xs ys p. (ys, p, refl)) content other is

stored_apart : (group_rows : ℕ) (version : Version) (first second : Book) → AreApart first second → AreApart (stored group_rows version first) (stored group_rows version second)
stored_apart group_rows version first second a =
    step (list_any (λ (g : Group). is_opened g.content) first.groups) (list_any (λ (g : Group). is_opened g.content) second.groups)
    (zip_any (IsApart first.claims) (λ (g : Group). is_opened g.content) (λ (g : Group). is_opened g.content) (λ g h r. same_opened g.content h.content r.0.1) first.groups second.groups a.groups)
  where
    step : (t u : Bool) → t ≡ u
        → AreApart (cond t (record first { groups = map (λ (g : Group). record g { content = with_version group_rows version g.content }) first.groups }) (with_group (store_of group_rows (version ∷ [])) first))
        (cond u (record second { groups = map (λ (g : Group). record g { content = with_version group_rows version g.content }) second.groups }) (with_group (store_of group_rows (version ∷ [])) second))
    step true true same = record {
      groups = zip_mapped (IsApart first.claims) (λ (g : Group). record g { content = with_version group_rows version g.content })
          (λ g h r. ((r.0.0, version_moved group_rows version g.content h.content r.0.1), (λ is. ap (λ (x : Group). record x { content = with_version group_rows version x.content }) (r.1 is)))) first.groups second.groups a.groups;
      buffer = a.buffer;
      claims = a.claims;
      next = a.next;
    }
    step true false same = cc
    step false true same = cc
    step false false same = record {
      groups = AllZip-push (IsApart first.claims) first.groups second.groups (record { id = first.next; content = store_of group_rows (version ∷ []) }) (record { id = second.next; content = store_of group_rows (version ∷ []) }) a.groups
          ((a.next, content_itself (store_of group_rows (version ∷ []))), (λ is. ap (λ (n : ℕ). record { id = n; content = store_of group_rows (version ∷ []) }) a.next));
      buffer = a.buffer;
      claims = a.claims;
      next = ap (λ n. n + 1) a.next;
    }

rest_apart : (group_rows c : ℕ) (keys : List Key) (first second : Book) → AreApart first second → AreApart (after_rest group_rows c keys first) (after_rest group_rows c keys second)
rest_apart group_rows c [] first second a = a
rest_apart group_rows c (key ∷ keys) first second a = rest_apart group_rows c keys (stored group_rows (new_version c key) first) (stored group_rows (new_version c key) second) (stored_apart group_rows (new_version c key) first second a)

unclaimed_from : (group_rows : ℕ) (book : Book) (cs : List Change) (floor : ℕ) → IsBookOf group_rows book cs floor → IsFreeFrom book.next book
unclaimed_from group_rows book cs floor j id content le = list_any-none (λ (claim : Claim). is_id_of claim.sources (record { id = id; content = content })) book.claims
    (weaker (IsClaim group_rows book cs floor) (λ (claim : Claim). is_id_of claim.sources (record { id = id; content = content }) ≡ false) book.claims
    (λ claim is. list_any-none (λ n. n == id) claim.sources (weaker (IsThere book.groups) (λ n. (n == id) ≡ false) claim.sources
    (λ n there. let low = there_low book Invisible j.groups.below n there in let lt : n < id = omega (arith, low, le) in grind (arith, nat_tests)) (recursion_from_All (IsThere book.groups) claim.sources is.there)))
    (recursion_from_All (IsClaim group_rows book cs floor) book.claims j.claims.each))

pub loads_reordered : (sizes : Sizes) (book : Book) (cs : List Change) (floor c : ℕ) (replaced inserted : List Key) (moved : List (List Key)) → IsBookOf sizes.group_rows book cs floor
    → AllZip IsPermutation (direct_parts (length inserted) sizes inserted).0 moved
    → IsReordered (after_commit sizes c replaced inserted book) (after_rest sizes.group_rows c (direct_parts (length inserted) sizes inserted).1 (after_loads c moved (after_ends replaced c book)))
loads_reordered sizes book cs floor c replaced inserted moved j zip =
    let ended : Book = after_ends replaced c book in
    let parts : List (List Key) × List Key = direct_parts (length inserted) sizes inserted in
    let a = rest_apart sizes.group_rows c parts.1 (after_loads c parts.0 ended) (after_loads c moved ended)
    (loads_apart c book.next parts.0 moved zip ended ended (unclaimed_from sizes.group_rows book cs floor j) (omega arith)
    record { groups = zip_itself (IsApart book.claims) (apart_itself book.claims) ended.groups; buffer = refl; claims = refl; next = refl }) in
    reordered_apart (after_commit sizes c replaced inserted book) (after_rest sizes.group_rows c parts.1 (after_loads c moved ended)) a.groups a.buffer a.claims a.next
