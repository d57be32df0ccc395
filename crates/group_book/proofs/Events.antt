-- What movers' events keep of the versions.
use Rattle.std.proofs.Common.{◌≡◌, ℕ, ◌≤◌, Bool, true, false, ◌&&◌, cond, List, [], ◌∷◌, ◌++◌, map, filter, not, refl, sym, ap, subst, ◌∙◌, arith}
use Rattle.std.specs.List.{AllByRecursion}
use Rattle.std.specs.List.Sorted.{IsPermutation}
use Rattle.std.proofs.lemmas.List.{append-nil}
use Rattle.std.proofs.lemmas.List.Elements.{recursion_from_All}
use Rattle.std.proofs.lemmas.List.Sorted.{IsPermutation-refl}
use Rattle.cs_model.specs.declared.work.Actor.{Actor}
use Rattle.cs_model.specs.Changes.{Change}
use Rattle.group_book.specs.Book.{Version, Content, Group, Choice, Claim, Book, how_many, opened, opened_in, frozen, frozen_in, is_closed, is_compressed, is_invisible, is_tombstone}
use Rattle.group_book.specs.Book.Content.{Opened, Closed, Compressed, Invisible, Tombstone}
use Rattle.group_book.specs.Book.Choice.{Compress, Flush, Rebuild, Merge, Settle, Clear, Idle}
use Rattle.group_book.specs.Turns.{is_id_of, is_fresh, is_claimed, made_of, spent_of, is_none_left, replaced_group, without_fresh, without_entries, with_compressed, flushed, flushed_group, settled, settled_group, after_claim, after_install, after_flush, after_release, after_clear, after_settle}
use Rattle.group_book.specs.Stocks.{Stock, stock_of, IsStockOf}
use Rattle.group_book.specs.Invariant.{may_be_source, makes_group, IsClaim}
use Rattle.group_book.proofs.Lists.{all-filter, weaker}
use Rattle.group_book.proofs.Install.{stock_repacked}
use Rattle.group_book.proofs.Flush.{stock_flushed}
use Rattle.group_book.proofs.Move.{stock_permuted, stock_settled}
use Rattle.group_book.proofs.Groups.{frozen-append, opened-append, frozen-split, invisible_none, tombstone_none, IsBare, bare_gone, IsReady, replaced_opened, others, replaced_none, replaced_one, mapped_split, map_opened}

-- ---- sources

closed_source : (content : Content) → is_closed content ≡ true → (opened_in content ≡ []) × (is_invisible content ≡ false)
closed_source (Opened versions) is = cc
closed_source (Closed versions) is = (refl, refl)
closed_source (Compressed versions) is = cc
closed_source Invisible is = cc
closed_source (Tombstone versions ends) is = cc

packed_source : (content : Content) → is_compressed content ≡ true → (opened_in content ≡ []) × (is_invisible content ≡ false)
packed_source (Opened versions) is = cc
packed_source (Closed versions) is = cc
packed_source (Compressed versions) is = (refl, refl)
packed_source Invisible is = cc
packed_source (Tombstone versions ends) is = cc

pub source_is : (choice : Choice) (content : Content) → may_be_source choice content ≡ true → (opened_in content ≡ []) × (is_invisible content ≡ false)
source_is (Compress source) content is = closed_source content is
source_is Flush content is = packed_source content is
source_is (Rebuild source) content is = packed_source content is
source_is (Merge first second) content is = packed_source content is
source_is Settle content is = cc
source_is Clear content is = cc
source_is Idle content is = cc

-- the same stock, where the lists are
pub moved_to : (cs : List Change) (floor : ℕ) (a b : Stock) → a.opened ≡ b.opened → IsPermutation a.frozen b.frozen → a.buffer ≡ b.buffer → IsStockOf a cs floor → IsStockOf b cs floor
moved_to cs floor a b same_opened moved same_buffer j =
    subst (λ buffer. IsStockOf (record { opened = b.opened; frozen = b.frozen; buffer = buffer }) cs floor) same_buffer
    (stock_permuted a cs floor b.frozen b.opened moved (subst (IsPermutation a.opened) same_opened (IsPermutation-refl a.opened)) j)

pub same_list : {X : Type 0} (xs ys : List X) → xs ≡ ys → IsPermutation xs ys
same_list xs ys e = subst (IsPermutation xs) e (IsPermutation-refl xs)

module _ (group_rows : ℕ) (book : Book) (cs : List Change) (floor : ℕ) (claim : Claim) (j : IsStockOf (stock_of book) cs floor) (c : IsClaim group_rows book cs floor claim) where
  abbrev Sources : Group → Type 0
  Sources g = is_id_of claim.sources g ≡ true → may_be_source claim.choice g.content ≡ true

  abbrev Fresh : Group → Type 0
  Fresh g = is_fresh claim.fresh g ≡ true → is_invisible g.content ≡ true

  apart_step : (g : Group) → Sources g → Fresh g → is_fresh claim.fresh g ≡ true → (t : Bool) → is_id_of claim.sources g ≡ t → t ≡ false
  apart_step g source fresh is true t_is = cc ((source_is claim.choice g.content (source t_is)).1, fresh is)
  apart_step g source fresh is false t_is = refl

  ready_from : (gs : List Group) → AllByRecursion Sources gs → AllByRecursion Fresh gs → AllByRecursion (IsReady claim.sources claim.fresh) gs
  ready_from [] sources fresh = tt
  ready_from (g ∷ gs) sources fresh = (
    record {
      source = λ is. (source_is claim.choice g.content (sources.0 is)).0;
      bare = λ is. invisible_none g.content (fresh.0 is);
      apart = λ is. apart_step g sources.0 fresh.0 is (is_id_of claim.sources g) refl;
    },
    ready_from gs sources.1 fresh.1,
  )

  ready : AllByRecursion (IsReady claim.sources claim.fresh) book.groups
  ready = ready_from book.groups (recursion_from_All Sources book.groups c.sources) (recursion_from_All Fresh book.groups c.fresh)

  abbrev rest : List Version
  rest = others claim.sources claim.fresh (made_of claim) book.groups

  abbrev apart_stock : Stock
  apart_stock = record { opened = opened book.groups; frozen = claim.lent ++ rest; buffer = book.buffer }

  -- the sources' versions, and the others
  apart_is : IsStockOf apart_stock cs floor
  apart_is = moved_to cs floor (stock_of book) apart_stock refl (subst (λ l. IsPermutation (frozen book.groups) (l ++ rest)) c.lent.versions (frozen-split (is_id_of claim.sources) book.groups)) refl j

  repacked_is : IsStockOf (record { opened = opened book.groups; frozen = made_of claim ++ rest; buffer = without_entries (spent_of claim) book.buffer }) cs floor
  repacked_is = stock_repacked apart_stock cs floor claim.lent rest claim.floor claim.entries (spent_of claim) apart_is refl c.below
      (recursion_from_All _ claim.lent c.lent.gone) (recursion_from_All _ book.buffer c.lent.spent)

  abbrev Replaced : Group → Group
  Replaced g = replaced_group claim.sources claim.fresh (made_of claim) g

  fresh_gone : (gs : List Group) → how_many (is_fresh claim.fresh) (without_fresh claim.fresh gs) ≡ 0
  fresh_gone [] = refl
  fresh_gone (g ∷ gs) = step (is_fresh claim.fresh g) refl (fresh_gone gs)
    where
      step : (t : Bool) → is_fresh claim.fresh g ≡ t → how_many (is_fresh claim.fresh) (without_fresh claim.fresh gs) ≡ 0 → how_many (is_fresh claim.fresh) (cond (not t) (g ∷ without_fresh claim.fresh gs) (without_fresh claim.fresh gs)) ≡ 0
      step true t_is zero = zero
      step false t_is zero = rw t_is (omega (arith, zero))

  others_same : (gs : List Group) → AllByRecursion (IsReady claim.sources claim.fresh) gs
      → frozen (filter (λ g. not (is_id_of claim.sources g)) (without_fresh claim.fresh gs)) ≡ frozen (filter (λ g. not (is_id_of claim.sources g)) gs)
  others_same [] all = refl
  others_same (g ∷ gs) all = step (is_fresh claim.fresh g) (is_id_of claim.sources g) refl refl (others_same gs all.1)
    where
      step : (t s : Bool) → is_fresh claim.fresh g ≡ t → is_id_of claim.sources g ≡ s → frozen (filter (λ h. not (is_id_of claim.sources h)) (without_fresh claim.fresh gs)) ≡ frozen (filter (λ h. not (is_id_of claim.sources h)) gs)
          → frozen (filter (λ h. not (is_id_of claim.sources h)) (cond (not t) (g ∷ without_fresh claim.fresh gs) (without_fresh claim.fresh gs))) ≡ frozen (cond (not s) (g ∷ filter (λ h. not (is_id_of claim.sources h)) gs) (filter (λ h. not (is_id_of claim.sources h)) gs))
      step true true t_is s_is same = same
      step true false t_is s_is same = same ∙ ap (λ l. l ++ frozen (filter (λ h. not (is_id_of claim.sources h)) gs)) (sym (all.0.bare t_is).1)
      step false true t_is s_is same = rw s_is same
      step false false t_is s_is same = rw s_is (ap (λ l. frozen_in g.content ++ l) same)

  ready_gone : AllByRecursion (IsReady claim.sources claim.fresh) (without_fresh claim.fresh book.groups)
  ready_gone = all-filter (IsReady claim.sources claim.fresh) (IsReady claim.sources claim.fresh) (λ g. not (is_fresh claim.fresh g)) book.groups (λ g r _. r) ready

  fresh_bare : AllByRecursion (λ g. is_fresh claim.fresh g ≡ true → IsBare g) book.groups
  fresh_bare = weaker (IsReady claim.sources claim.fresh) (λ g. is_fresh claim.fresh g ≡ true → IsBare g) book.groups (λ g r. r.bare) ready

  none_made : (versions : List Version) → is_none_left versions ≡ true → versions ≡ []
  none_made [] is = refl
  none_made (v ∷ vs) is = cc

  install_step : makes_group claim.choice ≡ true → (t : Bool) → is_none_left (made_of claim) ≡ t
      → IsStockOf (record {
        opened = opened (map Replaced (cond t (without_fresh claim.fresh book.groups) book.groups));
        frozen = frozen (map Replaced (cond t (without_fresh claim.fresh book.groups) book.groups));
        buffer = without_entries (spent_of claim) book.buffer;
      }) cs floor
  install_step makes true is =
      moved_to cs floor _ _
      (sym (replaced_opened claim.sources claim.fresh (made_of claim) (without_fresh claim.fresh book.groups) ready_gone ∙ (bare_gone (is_fresh claim.fresh) book.groups fresh_bare).0))
      (same_list (made_of claim ++ rest) (frozen (map Replaced (without_fresh claim.fresh book.groups)))
      (ap (λ l. l ++ rest) (none_made (made_of claim) is) ∙ sym (replaced_none claim.sources claim.fresh (made_of claim) (without_fresh claim.fresh book.groups) ready_gone (fresh_gone book.groups) ∙ others_same book.groups ready)))
      refl repacked_is
  install_step makes false is =
      moved_to cs floor _ _
      (sym (replaced_opened claim.sources claim.fresh (made_of claim) book.groups ready))
      (replaced_one claim.sources claim.fresh (made_of claim) book.groups ready (c.once ∙ ap (λ t. cond t 1 0) makes))
      refl repacked_is

  pub install_stock : makes_group claim.choice ≡ true → IsStockOf (stock_of (after_install claim book)) cs floor
  install_stock makes = install_step makes (is_none_left (made_of claim)) refl

  pub release_stock : IsStockOf (stock_of (after_release claim book)) cs floor
  release_stock = moved_to cs floor (stock_of book) (stock_of (after_release claim book))
      (sym (bare_gone (is_fresh claim.fresh) book.groups fresh_bare).0) (same_list (frozen book.groups) (frozen (without_fresh claim.fresh book.groups)) (sym (bare_gone (is_fresh claim.fresh) book.groups fresh_bare).1)) refl j

  -- ---- a flush

  packed_in : (f : List Version → List Version) (content : Content) → is_compressed content ≡ true → frozen_in (with_compressed f content) ≡ f (frozen_in content)
  packed_in f (Opened versions) is = cc
  packed_in f (Closed versions) is = cc
  packed_in f (Compressed versions) is = refl
  packed_in f Invisible is = cc
  packed_in f (Tombstone versions ends) is = cc

  same_opened : (f : List Version → List Version) (content : Content) → opened_in (with_compressed f content) ≡ opened_in content
  same_opened f (Opened versions) = refl
  same_opened f (Closed versions) = refl
  same_opened f (Compressed versions) = refl
  same_opened f Invisible = refl
  same_opened f (Tombstone versions ends) = refl

  abbrev fl : Version → Version
  fl v = flushed book.buffer claim.entries v

  abbrev Flushed : Group → Group
  Flushed g = flushed_group claim.sources book.buffer claim.entries g

  flushed_from : claim.choice ≡ Flush → (gs : List Group) → AllByRecursion Sources gs
      → AllByRecursion (λ g. (is_id_of claim.sources g ≡ true → frozen_in (Flushed g).content ≡ map fl (frozen_in g.content)) × (is_id_of claim.sources g ≡ false → frozen_in (Flushed g).content ≡ frozen_in g.content)) gs
  flushed_from flush [] sources = tt
  flushed_from flush (g ∷ gs) sources = (((λ is. rw is (packed_in (map fl) g.content (sym (ap (λ choice. may_be_source choice g.content) flush) ∙ sources.0 is))), (λ is. rw is refl)), flushed_from flush gs sources.1)

  flushed_opened : (gs : List Group) → AllByRecursion (λ g. opened_in (Flushed g).content ≡ opened_in g.content) gs
  flushed_opened [] = tt
  flushed_opened (g ∷ gs) = (step (is_id_of claim.sources g), flushed_opened gs)
    where
      step : (t : Bool) → opened_in (cond t (with_compressed (map fl) g.content) g.content) ≡ opened_in g.content
      step true = same_opened (map fl) g.content
      step false = refl

  pub flush_stock : claim.choice ≡ Flush → IsStockOf (stock_of (after_flush claim book)) cs floor
  flush_stock flush = moved_to cs floor _ (stock_of (after_flush claim book))
      (sym (map_opened Flushed book.groups (flushed_opened book.groups)))
      (subst (λ l. IsPermutation (map fl l ++ rest) (frozen (map Flushed book.groups))) c.lent.versions (mapped_split fl Flushed (is_id_of claim.sources) book.groups (flushed_from flush book.groups (recursion_from_All Sources book.groups c.sources))))
      refl
      (stock_flushed apart_stock cs floor claim.lent rest claim.entries apart_is refl c.lent.held (recursion_from_All _ claim.entries c.lent.owned))

-- ---- events of no claim

pub claim_stock : (by : Actor) (choice : Choice) (sources : List ℕ) (book : Book) (cs : List Change) (floor at : ℕ) → IsStockOf (stock_of book) cs floor → IsStockOf (stock_of (after_claim by choice sources at book)) cs floor
claim_stock by choice sources book cs floor at j = moved_to cs floor (stock_of book) (stock_of (after_claim by choice sources at book))
    (sym (opened-append book.groups (record { id = book.next; content = Invisible } ∷ []) ∙ append-nil (opened book.groups)))
    (same_list (frozen book.groups) (frozen (book.groups ++ record { id = book.next; content = Invisible } ∷ [])) (sym (frozen-append book.groups (record { id = book.next; content = Invisible } ∷ []) ∙ append-nil (frozen book.groups)))) refl j

tombstones_bare : (gs : List Group) → AllByRecursion (λ (g : Group). is_tombstone g.content ≡ true → IsBare g) gs
tombstones_bare [] = tt
tombstones_bare (g ∷ gs) = (λ is. tombstone_none g.content is, tombstones_bare gs)

pub clear_stock : (book : Book) (cs : List Change) (floor : ℕ) → IsStockOf (stock_of book) cs floor → IsStockOf (stock_of (after_clear book)) cs floor
clear_stock book cs floor j = moved_to cs floor (stock_of book) (stock_of (after_clear book))
    (sym (bare_gone (λ g. is_tombstone g.content) book.groups (tombstones_bare book.groups)).0)
    (same_list (frozen book.groups) (frozen (filter (λ (g : Group). not (is_tombstone g.content)) book.groups)) (sym (bare_gone (λ g. is_tombstone g.content) book.groups (tombstones_bare book.groups)).1)) refl j

-- a settle of packed groups that no claim has
module _ (book : Book) (cs : List Change) (floor at : ℕ) (j : IsStockOf (stock_of book) cs floor) (low : at ≤ floor) where
  abbrev may_settle : Group → Bool
  may_settle g = not (is_claimed book.claims g) && is_compressed g.content

  abbrev Settled : Group → Group
  Settled g = settled_group at book.claims g

  settled_in : (t : Bool) (content : Content) → ((not t && is_compressed content) ≡ true → frozen_in (cond t content (with_compressed (map (settled at)) content)) ≡ map (settled at) (frozen_in content))
      × ((not t && is_compressed content) ≡ false → frozen_in (cond t content (with_compressed (map (settled at)) content)) ≡ frozen_in content)
  settled_in true content = ((λ is. cc), (λ is. refl))
  settled_in false (Opened versions) = ((λ is. cc), (λ is. refl))
  settled_in false (Closed versions) = ((λ is. cc), (λ is. refl))
  settled_in false (Compressed versions) = ((λ is. refl), (λ is. cc))
  settled_in false Invisible = ((λ is. cc), (λ is. refl))
  settled_in false (Tombstone versions ends) = ((λ is. cc), (λ is. refl))

  settled_open : (t : Bool) (content : Content) → opened_in (cond t content (with_compressed (map (settled at)) content)) ≡ opened_in content
  settled_open true content = refl
  settled_open false (Opened versions) = refl
  settled_open false (Closed versions) = refl
  settled_open false (Compressed versions) = refl
  settled_open false Invisible = refl
  settled_open false (Tombstone versions ends) = refl

  settled_all : (gs : List Group) → AllByRecursion (λ g. (may_settle g ≡ true → frozen_in (Settled g).content ≡ map (settled at) (frozen_in g.content)) × (may_settle g ≡ false → frozen_in (Settled g).content ≡ frozen_in g.content)) gs
  settled_all [] = tt
  settled_all (g ∷ gs) = (settled_in (is_claimed book.claims g) g.content, settled_all gs)

  settled_opened : (gs : List Group) → AllByRecursion (λ g. opened_in (Settled g).content ≡ opened_in g.content) gs
  settled_opened [] = tt
  settled_opened (g ∷ gs) = (settled_open (is_claimed book.claims g) g.content, settled_opened gs)

  abbrev settle_sources : List Version
  settle_sources = frozen (filter may_settle book.groups)

  abbrev settle_rest : List Version
  settle_rest = frozen (filter (λ g. not (may_settle g)) book.groups)

  abbrev settle_parts : Stock
  settle_parts = record { opened = opened book.groups; frozen = settle_sources ++ settle_rest; buffer = book.buffer }

  pub settle_stock : IsStockOf (stock_of (after_settle at book)) cs floor
  settle_stock = moved_to cs floor _ (stock_of (after_settle at book))
      (sym (map_opened Settled book.groups (settled_opened book.groups)))
      (mapped_split (settled at) Settled may_settle book.groups (settled_all book.groups))
      refl
      (stock_settled settle_parts cs floor settle_sources settle_rest at (moved_to cs floor (stock_of book) settle_parts refl (frozen-split may_settle book.groups) refl j) refl low)
