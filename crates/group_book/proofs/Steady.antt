-- The claims of a book, when the contents of groups change that they do not name.
use Rattle.std.proofs.Common.{◌≡◌, ℕ, ◌<◌, ◌≤◌, ◌+◌, Bool, true, false, ◌||◌, cond, List, [], ◌∷◌, ◌++◌, map, filter, Option, Some, None, refl, sym, ap, ◌∙◌, arith}
use Rattle.std.specs.Prelude.{◌==◌}
use Rattle.std.specs.List.{All, AllByRecursion, list_any, Contains}
use Rattle.std.proofs.lemmas.List.{length-map}
use Rattle.std.proofs.lemmas.List.Elements.{recursion_from_All, All-from_recursion, All-contains, All-contains_itself, All-map}
use Rattle.cs_model.specs.Changes.{Change}
use Rattle.group_book.specs.Book.{Content, Group, Claim, Book, frozen, frozen_in, how_many, is_opened, is_invisible}
use Rattle.group_book.specs.Book.Content.{Opened, Closed, Compressed, Invisible, Tombstone}
use Rattle.group_book.specs.Turns.{is_id_of, is_fresh, is_claimed, with_compressed, settled, after_settle}
use Rattle.group_book.specs.Invariant.{IsSized, AreById, AreGroups, IsThere, IsClaim, IsBookOf, may_be_source}
use Rattle.group_book.proofs.Lists.{All-in, all-map, list_any-some}
use Rattle.group_book.proofs.Events.{settle_stock}

module _ (f : Group → Content) where
  abbrev pub changed : Group → Group
  changed g = record g { content = f g }

  pub fresh_same : (fresh : Option ℕ) (g : Group) → is_fresh fresh (changed g) ≡ is_fresh fresh g
  fresh_same None g = refl
  fresh_same (Some id) g = refl

  fresh_count : (fresh : Option ℕ) (gs : List Group) → how_many (is_fresh fresh) (map changed gs) ≡ how_many (is_fresh fresh) gs
  fresh_count fresh [] = refl
  fresh_count fresh (g ∷ gs) = ap (λ t. cond t 1 0 + how_many (is_fresh fresh) (map changed gs)) (fresh_same fresh g) ∙ ap (λ n. cond (is_fresh fresh g) 1 0 + n) (fresh_count fresh gs)

  pub makers_same : (g : Group) (claims : List Claim) → list_any (λ (claim : Claim). is_fresh claim.fresh (changed g)) claims ≡ list_any (λ (claim : Claim). is_fresh claim.fresh g) claims
  makers_same g [] = refl
  makers_same g (claim ∷ claims) = ap (λ t. t || list_any (λ (other : Claim). is_fresh other.fresh (changed g)) claims) (fresh_same claim.fresh g) ∙ ap (λ t. is_fresh claim.fresh g || t) (makers_same g claims)

  pub by_id_changed : (gs : List Group) → AreById gs → AreById (map changed gs)
  by_id_changed [] up = tt
  by_id_changed (g ∷ gs) up = (all-map (λ (h : Group). g.id < h.id) (λ (h : Group). g.id < h.id) changed gs (λ h lt. lt) up.0, by_id_changed gs up.1)

  -- what a change keeps of the groups
  pub record KeepsGroup (group_rows : ℕ) (g : Group) : Type 0 where
    pub opened : is_opened (f g) ≡ true → is_opened g.content ≡ true
    pub sized : IsSized group_rows g.content → IsSized group_rows (f g)

  opened_changed : (group_rows : ℕ) (gs : List Group) → AllByRecursion (KeepsGroup group_rows) gs → how_many (λ (g : Group). is_opened g.content) (map changed gs) ≤ how_many (λ (g : Group). is_opened g.content) gs
  opened_changed group_rows [] all = omega arith
  opened_changed group_rows (g ∷ gs) all = step (is_opened (f g)) (is_opened g.content) all.0.opened (opened_changed group_rows gs all.1)
    where
      step : (t u : Bool) → (t ≡ true → u ≡ true) → how_many (λ (h : Group). is_opened h.content) (map changed gs) ≤ how_many (λ (h : Group). is_opened h.content) gs
          → cond t 1 0 + how_many (λ (h : Group). is_opened h.content) (map changed gs) ≤ cond u 1 0 + how_many (λ (h : Group). is_opened h.content) gs
      step true u h rest = rw (h refl) (omega (arith, rest))
      step false true h rest = omega (arith, rest)
      step false false h rest = omega (arith, rest)

  pub groups_changed : (group_rows : ℕ) (book : Book) → AllByRecursion (KeepsGroup group_rows) book.groups → AreGroups group_rows book → AreGroups group_rows (record book { groups = map changed book.groups })
  groups_changed group_rows book keeps j = record {
    by_id = by_id_changed book.groups j.by_id;
    below = All-map (λ (g : Group). g.id < book.next) changed book.groups j.below;
    one = let le = j.one in omega (arith, le, opened_changed group_rows book.groups keeps);
    sized = All-map (λ (g : Group). IsSized group_rows g.content) changed book.groups (All-in (λ (g : Group). IsSized group_rows g.content) (λ (g : Group). IsSized group_rows (f g)) book.groups (λ g in_list s. (All-contains (KeepsGroup group_rows) book.groups g (All-from_recursion (KeepsGroup group_rows) book.groups keeps) in_list).sized s) j.sized);
  }

  -- a change leaves a claim's sources and its new group as they are
  pub record IsSteady (sources : List ℕ) (fresh : Option ℕ) (g : Group) : Type 0 where
    pub source : is_id_of sources g ≡ true → f g ≡ g.content
    pub fresh_group : is_fresh fresh g ≡ true → f g ≡ g.content

  there_changed : (id : ℕ) (gs : List Group) → list_any (λ (g : Group). g.id == id) (map changed gs) ≡ list_any (λ (g : Group). g.id == id) gs
  there_changed id [] = refl
  there_changed id (g ∷ gs) = ap (λ t. (g.id == id) || t) (there_changed id gs)

  versions_changed : (sources : List ℕ) (fresh : Option ℕ) (gs : List Group) → AllByRecursion (IsSteady sources fresh) gs → frozen (filter (is_id_of sources) (map changed gs)) ≡ frozen (filter (is_id_of sources) gs)
  versions_changed sources fresh [] all = refl
  versions_changed sources fresh (g ∷ gs) all = step (is_id_of sources g) all.0.source (versions_changed sources fresh gs all.1)
    where
      step : (t : Bool) → (t ≡ true → f g ≡ g.content) → frozen (filter (is_id_of sources) (map changed gs)) ≡ frozen (filter (is_id_of sources) gs)
          → frozen (cond t (changed g ∷ filter (is_id_of sources) (map changed gs)) (filter (is_id_of sources) (map changed gs))) ≡ frozen (cond t (g ∷ filter (is_id_of sources) gs) (filter (is_id_of sources) gs))
      step true same rest = ap (λ l. frozen_in (f g) ++ l) rest ∙ ap (λ content. frozen_in content ++ frozen (filter (is_id_of sources) gs)) (same refl)
      step false same rest = rest

  pub claim_changed : (group_rows : ℕ) (book : Book) (cs : List Change) (floor : ℕ) (claim : Claim) → All (IsSteady claim.sources claim.fresh) book.groups → IsClaim group_rows book cs floor claim
      → IsClaim group_rows (record book { groups = map changed book.groups }) cs floor claim
  claim_changed group_rows book cs floor claim steady c = record {
    below = c.below;
    kind = c.kind;
    there = All-in (IsThere book.groups) (IsThere (map changed book.groups)) claim.sources (λ id _ is. there_changed id book.groups ∙ is) c.there;
    sources = All-map (λ (g : Group). is_id_of claim.sources g ≡ true → may_be_source claim.choice g.content ≡ true) changed book.groups
        (All-in (λ (g : Group). is_id_of claim.sources g ≡ true → may_be_source claim.choice g.content ≡ true) (λ (g : Group). is_id_of claim.sources g ≡ true → may_be_source claim.choice (f g) ≡ true) book.groups
        (λ g in_list source is. ap (may_be_source claim.choice) ((All-contains (IsSteady claim.sources claim.fresh) book.groups g steady in_list).source is) ∙ source is) c.sources);
    makes = c.makes;
    fresh = All-map (λ (g : Group). is_fresh claim.fresh g ≡ true → is_invisible g.content ≡ true) changed book.groups
        (All-in (λ (g : Group). is_fresh claim.fresh g ≡ true → is_invisible g.content ≡ true) (λ (g : Group). is_fresh claim.fresh (changed g) ≡ true → is_invisible (f g) ≡ true) book.groups
        (λ g in_list fresh is.
        let was = sym (fresh_same claim.fresh g) ∙ is in
        ap is_invisible ((All-contains (IsSteady claim.sources claim.fresh) book.groups g steady in_list).fresh_group was) ∙ fresh was) c.fresh);
    once = fresh_count claim.fresh book.groups ∙ c.once;
    lent = record {
      versions = versions_changed claim.sources claim.fresh book.groups (recursion_from_All (IsSteady claim.sources claim.fresh) book.groups steady) ∙ c.lent.versions;
      gone = c.lent.gone;
      spent = c.lent.spent;
      held = c.lent.held;
      owned = c.lent.owned;
    };
    room = c.room;
  }

-- ---- a settle

module _ (group_rows : ℕ) (book : Book) (cs : List Change) (floor at : ℕ) (low : at ≤ floor) (j : IsBookOf group_rows book cs floor) where
  abbrev content_settled : Group → Content
  content_settled g = cond (is_claimed book.claims g) g.content (with_compressed (map (settled at)) g.content)

  settled_group_kept : (t : Bool) (content : Content) → (is_opened (cond t content (with_compressed (map (settled at)) content)) ≡ is_opened content) × (is_invisible (cond t content (with_compressed (map (settled at)) content)) ≡ is_invisible content)
  settled_group_kept true content = (refl, refl)
  settled_group_kept false (Opened versions) = (refl, refl)
  settled_group_kept false (Closed versions) = (refl, refl)
  settled_group_kept false (Compressed versions) = (refl, refl)
  settled_group_kept false Invisible = (refl, refl)
  settled_group_kept false (Tombstone versions ends) = (refl, refl)

  settled_sized : (t : Bool) (content : Content) → IsSized group_rows content → IsSized group_rows (cond t content (with_compressed (map (settled at)) content))
  settled_sized true content s = s
  settled_sized false (Opened versions) s = s
  settled_sized false (Closed versions) s = s
  settled_sized false (Compressed versions) s = let same = length-map versions (settled at) in (omega (arith, same, s.0), omega (arith, same, s.1))
  settled_sized false Invisible s = s
  settled_sized false (Tombstone versions ends) s = s

  keeps_settled : (gs : List Group) → AllByRecursion (KeepsGroup content_settled group_rows) gs
  keeps_settled [] = tt
  keeps_settled (g ∷ gs) = (record { opened = λ is. sym (settled_group_kept (is_claimed book.claims g) g.content).0 ∙ is; sized = λ s. settled_sized (is_claimed book.claims g) g.content s }, keeps_settled gs)

  invisible_settled : (t : Bool) (content : Content) → is_invisible content ≡ true → cond t content (with_compressed (map (settled at)) content) ≡ content
  invisible_settled true content is = refl
  invisible_settled false (Opened versions) is = cc
  invisible_settled false (Closed versions) is = cc
  invisible_settled false (Compressed versions) is = cc
  invisible_settled false Invisible is = refl
  invisible_settled false (Tombstone versions ends) is = cc

  claimed_settled : (t : Bool) (content : Content) → t ≡ true → cond t content (with_compressed (map (settled at)) content) ≡ content
  claimed_settled true content is = refl
  claimed_settled false content is = cc

  steady : (claim : Claim) → Contains book.claims claim → IsClaim group_rows book cs floor claim → All (IsSteady content_settled claim.sources claim.fresh) book.groups
  steady claim in_list c = All-in (Contains book.groups) (IsSteady content_settled claim.sources claim.fresh) book.groups (λ g in_groups _. record {
    source = λ is. claimed_settled (is_claimed book.claims g) g.content (list_any-some (λ (other : Claim). is_id_of other.sources g) book.claims in_list.0 claim in_list.1 (rw in_list.2 is));
    fresh_group = λ is. invisible_settled (is_claimed book.claims g) g.content (All-contains (λ (h : Group). is_fresh claim.fresh h ≡ true → is_invisible h.content ≡ true) book.groups g c.fresh in_groups is);
  }) (All-contains_itself book.groups)

  pub settle_is : IsBookOf group_rows (after_settle at book) cs floor
  settle_is = record {
    stock = settle_stock book cs floor at j.stock low;
    groups = groups_changed content_settled group_rows book (keeps_settled book.groups) j.groups;
    claims = record {
      actors = j.claims.actors;
      sources = j.claims.sources;
      fresh = j.claims.fresh;
      made = All-map (λ (g : Group). is_invisible g.content ≡ true → list_any (λ (claim : Claim). is_fresh claim.fresh g) book.claims ≡ true) (changed content_settled) book.groups
          (All-in (λ (g : Group). is_invisible g.content ≡ true → list_any (λ (claim : Claim). is_fresh claim.fresh g) book.claims ≡ true) (λ (g : Group). is_invisible (content_settled g) ≡ true → list_any (λ (claim : Claim). is_fresh claim.fresh (changed content_settled g)) book.claims ≡ true) book.groups
          (λ g _ made is. makers_same content_settled g book.claims ∙ made (sym (settled_group_kept (is_claimed book.claims g) g.content).1 ∙ is)) j.claims.made);
      each = All-in (IsClaim group_rows book cs floor) (IsClaim group_rows (after_settle at book) cs floor) book.claims (λ claim in_list c. claim_changed content_settled group_rows book cs floor claim (steady claim in_list c) c) j.claims.each;
    };
  }
