-- An install of a flush keeps the book one of the changes.
use Rattle.std.proofs.Common.{◌≡◌, ℕ, Bool, true, false, cond, List, [], ◌∷◌, map, not, get_or, Option, Some, None, is_some, refl, sym, ap, ◌∙◌, arith}
use Rattle.std.specs.List.{AllByRecursion, list_any, Contains}
use Rattle.std.proofs.lemmas.List.{length-map}
use Rattle.std.proofs.lemmas.List.Elements.{recursion_from_All, All-contains, All-contains_itself, All-map}
use Rattle.cs_model.specs.Changes.{Change}
use Rattle.group_book.specs.Book.{Version, Content, Group, Claim, Book, is_opened, is_invisible}
use Rattle.group_book.specs.Book.Choice.{Flush}
use Rattle.group_book.specs.Book.Content.{Opened, Closed, Compressed, Invisible, Tombstone}
use Rattle.group_book.specs.Turns.{holds, is_id_of, is_fresh, is_by, flushed, with_compressed, without_claim, after_flush}
use Rattle.group_book.specs.Invariant.{IsSized, IsClaim, fresh_in, IsBookOf, makes_group}
use Rattle.group_book.proofs.Lists.{All-in}
use Rattle.group_book.proofs.Events.{source_is, flush_stock}
use Rattle.group_book.proofs.Steady.{KeepsGroup, IsSteady, changed, groups_changed, claim_changed, makers_same}
use Rattle.group_book.proofs.Released.{actors_filter, joined_filter, makes_it, any_kept, not_made}
use Rattle.group_book.proofs.Installed.{claim_spent, lent_once, other_source, of_claim, other_all}

module _ (group_rows : ℕ) (book : Book) (cs : List Change) (floor : ℕ) (claim : Claim) (j : IsBookOf group_rows book cs floor) (in_list : Contains book.claims claim) (flush : claim.choice ≡ Flush) where
  c : IsClaim group_rows book cs floor claim
  c = All-contains (IsClaim group_rows book cs floor) book.claims claim j.claims.each in_list

  abbrev rest : List Claim
  rest = without_claim claim.actor book.claims

  abbrev fl : Version → Version
  fl v = flushed book.buffer claim.entries v

  abbrev new_content : Group → Content
  new_content g = cond (is_id_of claim.sources g) (with_compressed (map fl) g.content) g.content

  kept_step : (s : Bool) (content : Content) → (is_opened (cond s (with_compressed (map fl) content) content) ≡ is_opened content) × (is_invisible (cond s (with_compressed (map fl) content) content) ≡ is_invisible content)
  kept_step false content = (refl, refl)
  kept_step true (Opened versions) = (refl, refl)
  kept_step true (Closed versions) = (refl, refl)
  kept_step true (Compressed versions) = (refl, refl)
  kept_step true Invisible = (refl, refl)
  kept_step true (Tombstone versions ends) = (refl, refl)

  sized_step : (s : Bool) (content : Content) → IsSized group_rows content → IsSized group_rows (cond s (with_compressed (map fl) content) content)
  sized_step false content sized = sized
  sized_step true (Opened versions) sized = sized
  sized_step true (Closed versions) sized = sized
  sized_step true (Compressed versions) sized = let same = length-map versions fl in (omega (arith, same, sized.0), omega (arith, same, sized.1))
  sized_step true Invisible sized = sized
  sized_step true (Tombstone versions ends) sized = sized

  keeps : (gs : List Group) → AllByRecursion (KeepsGroup new_content group_rows) gs
  keeps [] = tt
  keeps (g ∷ gs) = (record { opened = λ is. sym (kept_step (is_id_of claim.sources g) g.content).0 ∙ is; sized = λ s. sized_step (is_id_of claim.sources g) g.content s }, keeps gs)

  -- a flush makes no group
  none_made : (fresh : Option ℕ) → is_some fresh ≡ false → (g : Group) → is_fresh fresh g ≡ false
  none_made None is g = refl
  none_made (Some id) is g = cc

  not_fresh : (g : Group) → is_fresh claim.fresh g ≡ false
  not_fresh g = none_made claim.fresh (c.makes ∙ ap makes_group flush) g

  no_source : (g : Group) → Contains book.groups g → is_invisible g.content ≡ true → (t : Bool) → is_id_of claim.sources g ≡ t → t ≡ false
  no_source g in_groups invisible true is = cc ((source_is claim.choice g.content (of_claim group_rows book cs floor claim j in_list g in_groups is)).1, invisible)
  no_source g in_groups invisible false is = refl

  steady_at : (o : Claim) → Contains book.claims o → is_by claim.actor o ≡ false → (g : Group) → Contains book.groups g → IsSteady new_content o.sources o.fresh g
  steady_at o in_o by g in_groups =
      let o_is = All-contains (IsClaim group_rows book cs floor) book.claims o j.claims.each in_o in
      let o_fresh = All-contains (λ (h : Group). is_fresh o.fresh h ≡ true → is_invisible h.content ≡ true) book.groups g o_is.fresh in_groups in
      record {
        source = λ is. rw (other_source group_rows book cs floor claim j in_list o in_o by g is) refl;
        fresh_group = λ is. rw (no_source g in_groups (o_fresh is) (is_id_of claim.sources g) refl) refl;
      }

  made_by_other : (g : Group) → Contains book.groups g → is_invisible (new_content g) ≡ true → list_any (makes_it g) rest ≡ true
  made_by_other g in_groups is =
      any_kept (is_by claim.actor) (makes_it g) book.claims
      (recursion_from_All (λ other. is_by claim.actor other ≡ true → makes_it g other ≡ false) book.claims (All-in (Contains book.claims) (λ other. is_by claim.actor other ≡ true → makes_it g other ≡ false) book.claims
      (λ other in_other _ by. not_made group_rows book cs floor claim j in_list g (not_fresh g) other in_other by (is_fresh other.fresh g) refl) (All-contains_itself book.claims)))
      (All-contains (λ (h : Group). is_invisible h.content ≡ true → list_any (makes_it h) book.claims ≡ true) book.groups g j.claims.made in_groups (sym (kept_step (is_id_of claim.sources g) g.content).1 ∙ is))

  pub flush_is : IsBookOf group_rows (after_flush claim book) cs floor
  flush_is = record {
    stock = flush_stock group_rows book cs floor claim j.stock c flush;
    groups = let g = groups_changed new_content group_rows book (keeps book.groups) j.groups in record { by_id = g.by_id; below = g.below; one = g.one; sized = g.sized };
    claims = record {
      actors = actors_filter (λ other. not (is_by claim.actor other)) book.claims j.claims.actors;
      sources = joined_filter (λ (d : Claim). d.sources) (λ other. not (is_by claim.actor other)) book.claims j.claims.sources;
      fresh = joined_filter (λ (d : Claim). fresh_in d.fresh) (λ other. not (is_by claim.actor other)) book.claims j.claims.fresh;
      made = All-map (λ (g : Group). is_invisible g.content ≡ true → list_any (makes_it g) rest ≡ true) (changed new_content) book.groups
          (All-in (Contains book.groups) (λ (g : Group). is_invisible (new_content g) ≡ true → list_any (makes_it (changed new_content g)) rest ≡ true) book.groups
          (λ g _ in_groups is. makers_same new_content g rest ∙ made_by_other g in_groups is) (All-contains_itself book.groups));
      each = λ k d inside.
          let o = get_or rest k d in
          let fact = other_all group_rows book cs floor claim j in_list k d inside in
          let o_is = All-contains (IsClaim group_rows book cs floor) book.claims o j.claims.each fact.0 in
          claim_spent group_rows (record book { groups = map (changed new_content) book.groups }) cs floor o claim.entries rest book.next
          (λ q e is. lent_once group_rows book cs floor claim j in_list o fact.0 fact.1 q e is (holds claim.entries q e) refl)
          (claim_changed new_content group_rows book cs floor o (All-in (Contains book.groups) (IsSteady new_content o.sources o.fresh) book.groups (λ g _ in_groups. steady_at o fact.0 fact.1 g in_groups) (All-contains_itself book.groups)) o_is);
    };
  }
