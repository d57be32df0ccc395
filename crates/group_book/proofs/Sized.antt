-- The groups of a book, when some go, change or come.
use Rattle.std.proofs.Common.{◌≡◌, ℕ, ◌<◌, ◌≤◌, ◌+◌, Bool, true, false, ◌||◌, cond, List, [], ◌∷◌, filter, not, Option, refl, ap, ◌∙◌, arith}
use Rattle.std.specs.Prelude.{◌==◌}
use Rattle.std.specs.List.{All, AllByRecursion, list_any, Contains}
use Rattle.std.proofs.lemmas.Bool.Decides.{nat_tests}
use Rattle.std.proofs.lemmas.List.Elements.{recursion_from_All, All-from_recursion}
use Rattle.cs_model.specs.Changes.{Change}
use Rattle.group_book.specs.Book.{Content, Group, Choice, Claim, Book, frozen, how_many, is_opened, is_invisible, is_tombstone}
use Rattle.group_book.specs.Book.Content.{Opened, Closed, Compressed, Invisible, Tombstone}
use Rattle.group_book.specs.Book.Choice.{Compress, Flush, Rebuild, Merge, Settle, Clear, Idle}
use Rattle.group_book.specs.Turns.{is_id_of, is_fresh, after_clear}
use Rattle.group_book.specs.Invariant.{IsSized, AreById, AreGroups, IsThere, IsClaim, IsBookOf, may_be_source}
use Rattle.group_book.proofs.Lists.{All-in, all-filter, list_any-some}
use Rattle.group_book.proofs.Events.{clear_stock}

-- ---- groups that go

pub count_filter : {X : Type 0} (q p : X → Bool) (xs : List X) → how_many q (filter p xs) ≤ how_many q xs
count_filter q p [] = omega arith
count_filter q p (x ∷ xs) = step (p x) (count_filter q p xs)
  where
    step : (t : Bool) → how_many q (filter p xs) ≤ how_many q xs → how_many q (cond t (x ∷ filter p xs) (filter p xs)) ≤ cond (q x) 1 0 + how_many q xs
    step true le = omega (arith, le)
    step false le = omega (arith, le)

pub by_id_filter : (p : Group → Bool) (gs : List Group) → AreById gs → AreById (filter p gs)
by_id_filter p [] up = tt
by_id_filter p (g ∷ gs) up = step (p g) (by_id_filter p gs up.1)
  where
    step : (t : Bool) → AreById (filter p gs) → AreById (cond t (g ∷ filter p gs) (filter p gs))
    step true rest = (all-filter (λ (h : Group). g.id < h.id) (λ (h : Group). g.id < h.id) p gs (λ h lt _. lt) up.0, rest)
    step false rest = rest

pub All-filter : {X : Type 0} (P : X → Type 0) (p : X → Bool) (xs : List X) → All P xs → All P (filter p xs)
All-filter P p xs all = All-from_recursion P (filter p xs) (all-filter P P p xs (λ x h _. h) (recursion_from_All P xs all))

pub groups_filter : (group_rows : ℕ) (p : Group → Bool) (book : Book) → AreGroups group_rows book → AreGroups group_rows (record book { groups = filter p book.groups })
groups_filter group_rows p book j = record {
  by_id = by_id_filter p book.groups j.by_id;
  below = All-filter (λ (g : Group). g.id < book.next) p book.groups j.below;
  one = let le = j.one in omega (arith, le, count_filter (λ (g : Group). is_opened g.content) p book.groups);
  sized = All-filter (λ (g : Group). IsSized group_rows g.content) p book.groups j.sized;
}

-- ---- what a claim says of groups, where others go

module _ (p : Group → Bool) (sources : List ℕ) (fresh : Option ℕ) where
  -- neither a source nor the group that is made
  abbrev pub IsOther : Group → Type 0
  IsOther g = p g ≡ true → (is_id_of sources g ≡ false) × (is_fresh fresh g ≡ false)

  there_step : (id : ℕ) (g : Group) → IsOther g → list_any (λ s. s == id) sources ≡ true → p g ≡ true → (g.id == id) ≡ false
  there_step id g other member is = step (g.id == id) refl
    where
      step : (t : Bool) → (g.id == id) ≡ t → t ≡ false
      step true same =
          let e : g.id ≡ id = grind (arith, nat_tests) in
          cc (ap (λ n. list_any (λ s. s == n) sources) e, member, (other is).0)
      step false same = refl

  pub there_kept : (gs : List Group) → AllByRecursion IsOther gs → (id : ℕ) → list_any (λ s. s == id) sources ≡ true → list_any (λ (g : Group). g.id == id) gs ≡ true → list_any (λ (g : Group). g.id == id) (filter (λ g. not (p g)) gs) ≡ true
  there_kept [] all id member h = h
  there_kept (g ∷ gs) all id member h = step (p g) refl (g.id == id) refl h (there_kept gs all.1 id member)
    where
      step : (t : Bool) → p g ≡ t → (u : Bool) → (g.id == id) ≡ u → (u || list_any (λ (h : Group). h.id == id) gs) ≡ true → (list_any (λ (h : Group). h.id == id) gs ≡ true → list_any (λ (h : Group). h.id == id) (filter (λ h. not (p h)) gs) ≡ true)
          → list_any (λ (h : Group). h.id == id) (cond (not t) (g ∷ filter (λ h. not (p h)) gs) (filter (λ h. not (p h)) gs)) ≡ true
      step true is true same h rest = cc (there_step id g all.0 member is, same)
      step true is false same h rest = rest h
      step false is true same h rest = rw same refl
      step false is false same h rest = rw same (rest h)

  pub sources_kept : (gs : List Group) → AllByRecursion IsOther gs → filter (is_id_of sources) (filter (λ g. not (p g)) gs) ≡ filter (is_id_of sources) gs
  sources_kept [] all = refl
  sources_kept (g ∷ gs) all = step (p g) refl (sources_kept gs all.1)
    where
      step : (t : Bool) → p g ≡ t → filter (is_id_of sources) (filter (λ h. not (p h)) gs) ≡ filter (is_id_of sources) gs
          → filter (is_id_of sources) (cond (not t) (g ∷ filter (λ h. not (p h)) gs) (filter (λ h. not (p h)) gs)) ≡ filter (is_id_of sources) (g ∷ gs)
      step true is rest = rw (all.0 is).0 rest
      step false is rest = ap (λ l. cond (is_id_of sources g) (g ∷ l) l) rest

  pub fresh_kept : (gs : List Group) → AllByRecursion IsOther gs → how_many (is_fresh fresh) (filter (λ g. not (p g)) gs) ≡ how_many (is_fresh fresh) gs
  fresh_kept [] all = refl
  fresh_kept (g ∷ gs) all = step (p g) refl (fresh_kept gs all.1)
    where
      step : (t : Bool) → p g ≡ t → how_many (is_fresh fresh) (filter (λ h. not (p h)) gs) ≡ how_many (is_fresh fresh) gs
          → how_many (is_fresh fresh) (cond (not t) (g ∷ filter (λ h. not (p h)) gs) (filter (λ h. not (p h)) gs)) ≡ how_many (is_fresh fresh) (g ∷ gs)
      step true is rest = rw (all.0 is).1 (omega (arith, rest))
      step false is rest = ap (λ n. cond (is_fresh fresh g) 1 0 + n) rest

one_of_ids : (ids : List ℕ) (id : ℕ) → Contains ids id → list_any (λ s. s == id) ids ≡ true
one_of_ids ids id in_list = list_any-some (λ s. s == id) ids in_list.0 id in_list.1 (rw in_list.2 (grind (arith, nat_tests)))

-- a claim stays where groups go that it does not name
pub claim_filter : (group_rows : ℕ) (p : Group → Bool) (book : Book) (claims : List Claim) (cs : List Change) (floor : ℕ) (claim : Claim) → AllByRecursion (IsOther p claim.sources claim.fresh) book.groups
    → IsClaim group_rows book cs floor claim → IsClaim group_rows (record book { groups = filter (λ g. not (p g)) book.groups; claims = claims }) cs floor claim
claim_filter group_rows p book claims cs floor claim others c = record {
  below = c.below;
  kind = c.kind;
  there = All-in (IsThere book.groups) (IsThere (filter (λ g. not (p g)) book.groups)) claim.sources (λ id in_list is. there_kept p claim.sources claim.fresh book.groups others id (one_of_ids claim.sources id in_list) is) c.there;
  sources = All-filter (λ (g : Group). is_id_of claim.sources g ≡ true → may_be_source claim.choice g.content ≡ true) (λ g. not (p g)) book.groups c.sources;
  makes = c.makes;
  fresh = All-filter (λ (g : Group). is_fresh claim.fresh g ≡ true → is_invisible g.content ≡ true) (λ g. not (p g)) book.groups c.fresh;
  once = fresh_kept p claim.sources claim.fresh book.groups others ∙ c.once;
  lent = record {
    versions = ap frozen (sources_kept p claim.sources claim.fresh book.groups others) ∙ c.lent.versions;
    gone = c.lent.gone;
    spent = c.lent.spent;
    held = c.lent.held;
    owned = c.lent.owned;
  };
  room = c.room;
}

-- a claim stays where other claims come and go
pub claim_beside : (group_rows : ℕ) (book : Book) (claims : List Claim) (cs : List Change) (floor : ℕ) (claim : Claim) → IsClaim group_rows book cs floor claim → IsClaim group_rows (record book { claims = claims }) cs floor claim
claim_beside group_rows book claims cs floor claim c = record {
  below = c.below;
  kind = c.kind;
  there = c.there;
  sources = c.sources;
  makes = c.makes;
  fresh = c.fresh;
  once = c.once;
  lent = record { versions = c.lent.versions; gone = c.lent.gone; spent = c.lent.spent; held = c.lent.held; owned = c.lent.owned };
  room = c.room;
}

-- ---- a clear

tombstone_visible : (content : Content) → is_tombstone content ≡ true → is_invisible content ≡ false
tombstone_visible (Opened versions) is = cc
tombstone_visible (Closed versions) is = cc
tombstone_visible (Compressed versions) is = cc
tombstone_visible Invisible is = cc
tombstone_visible (Tombstone versions ends) is = refl

no_source : (choice : Choice) (versions ends : ℕ) → may_be_source choice (Tombstone versions ends) ≡ false
no_source (Compress source) versions ends = refl
no_source Flush versions ends = refl
no_source (Rebuild source) versions ends = refl
no_source (Merge first second) versions ends = refl
no_source Settle versions ends = refl
no_source Clear versions ends = refl
no_source Idle versions ends = refl

tombstone_source : (choice : Choice) (content : Content) → is_tombstone content ≡ true → may_be_source choice content ≡ false
tombstone_source choice (Opened versions) is = cc
tombstone_source choice (Closed versions) is = cc
tombstone_source choice (Compressed versions) is = cc
tombstone_source choice Invisible is = cc
tombstone_source choice (Tombstone versions ends) is = no_source choice versions ends

false_if : (t u : Bool) → (t ≡ true → u ≡ true) → u ≡ false → t ≡ false
false_if true u h is = cc (h refl, is)
false_if false u h is = refl

tombstones_other : (group_rows : ℕ) (book : Book) (cs : List Change) (floor : ℕ) (claim : Claim) → IsClaim group_rows book cs floor claim → AllByRecursion (IsOther (λ (g : Group). is_tombstone g.content) claim.sources claim.fresh) book.groups
tombstones_other group_rows book cs floor claim c = from book.groups (recursion_from_All _ book.groups c.sources) (recursion_from_All _ book.groups c.fresh)
  where
    from : (gs : List Group) → AllByRecursion (λ (g : Group). is_id_of claim.sources g ≡ true → may_be_source claim.choice g.content ≡ true) gs → AllByRecursion (λ (g : Group). is_fresh claim.fresh g ≡ true → is_invisible g.content ≡ true) gs
        → AllByRecursion (IsOther (λ (g : Group). is_tombstone g.content) claim.sources claim.fresh) gs
    from [] sources fresh = tt
    from (g ∷ gs) sources fresh = (
      (λ is. (false_if (is_id_of claim.sources g) (may_be_source claim.choice g.content) sources.0 (tombstone_source claim.choice g.content is), false_if (is_fresh claim.fresh g) (is_invisible g.content) fresh.0 (tombstone_visible g.content is))),
      from gs sources.1 fresh.1,
    )

pub clear_is : (group_rows : ℕ) (book : Book) (cs : List Change) (floor : ℕ) → IsBookOf group_rows book cs floor → IsBookOf group_rows (after_clear book) cs floor
clear_is group_rows book cs floor j = record {
  stock = clear_stock book cs floor j.stock;
  groups = groups_filter group_rows (λ (g : Group). not (is_tombstone g.content)) book j.groups;
  claims = record {
    actors = j.claims.actors;
    sources = j.claims.sources;
    fresh = j.claims.fresh;
    made = All-filter (λ (g : Group). is_invisible g.content ≡ true → list_any (λ (claim : Claim). is_fresh claim.fresh g) book.claims ≡ true) (λ (g : Group). not (is_tombstone g.content)) book.groups j.claims.made;
    each = All-in (IsClaim group_rows book cs floor) (IsClaim group_rows (after_clear book) cs floor) book.claims (λ claim _ c. claim_filter group_rows (λ (g : Group). is_tombstone g.content) book book.claims cs floor claim (tombstones_other group_rows book cs floor claim c) c) j.claims.each;
  };
}
