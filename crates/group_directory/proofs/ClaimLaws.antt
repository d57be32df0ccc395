-- A directory stands for the same changes after the first event of a turn.
use Rattle.std.proofs.Common.{◌≡◌, ℕ, ◌<◌, ◌≤◌, ◌^◌, Bool, true, false, cond, List, [], ◌∷◌, ◌++◌, map, filter, Option, Some, None, refl, sym, ap, subst, ◌∙◌, inl, inr}
use Rattle.std.specs.Prelude.{◌⊎◌}
use Rattle.std.specs.List.{All, AllByRecursion, Contains}
use Rattle.std.proofs.lemmas.List.{append-nil, map-append}
use Rattle.std.proofs.lemmas.List.Elements.{All-cons, All-from_recursion, recursion_from_All}
use Rattle.cs_types.specs.declared.Key.{Key}
use Rattle.cs_model.specs.declared.work.Actor.{Actor}
use Rattle.cs_model.specs.Changes.{Change}
use Rattle.group_book.specs.Book as book
use Rattle.group_book.specs.Book.{Content, Book, is_compressed, is_opened}
use Rattle.group_book.specs.Book.{Choice as kinds}
use Rattle.group_book.specs.Book.{Content as shape}
use Rattle.group_book.specs.Choices.{flushable, flush_sources, after_choice}
use Rattle.group_book.specs.Turns as turns
use Rattle.group_book.specs.Turns.{is_id_of, entries_for, after_claim, after_flush_claim}
use Rattle.group_book.specs.Invariant.{IsBookOf, IsThere, MayTake, MayDo, AreSourcesOf, may_be_source, makes_group}
use Rattle.group_book.proofs.Chosen.{choice_apt}
use Rattle.group_book.proofs.Grown.{there_low}
use Rattle.group_book.proofs.Installed.{shut_source}
use Rattle.group_book.proofs.Lists.{weaker}
use Rattle.group_book.proofs.Turned.{turn_is}
use Rattle.group_book.proofs.Visible.{ascending_of}
use Rattle.group_view.specs.declared.claim.Claim.{Claim}
use Rattle.group_view.specs.declared.groups.Group.{Group}
use Rattle.group_view.specs.declared.groups.GroupList.{GroupList}
use Rattle.group_view.specs.declared.parts.GroupPart.{GroupPart}
use Rattle.group_view.specs.Laws.{IsMadeRow}
use Rattle.std.proofs.lemmas.Grind.{flat_map-append}
use Rattle.group_view.specs.Parts.{ArePacked, Rowed, IsFitting}
use Rattle.group_view.specs.Views.{endings_of, rowed_of}
use Rattle.group_view.specs.Books.{versions_of, group_of, choice_of, claim_of, book_of, rowed_in_content, StandsAsLent}
use Rattle.group_view.specs.Claims.{IsPackedPart}
use Rattle.group_view.specs.Lists.{is_listed, listed, packed_of, packed_in, IsOpenAt, IsHeld}
use Rattle.group_directory.specs.declared.claims.Turn.{Turn}
use Rattle.group_directory.specs.declared.directory.Directory.{Directory}
use Rattle.group_directory.specs.declared.movers.Claimed.TheVariants.{Lent}
use Rattle.group_directory.specs.Calls.{IsAsBefore}
use Rattle.group_directory.specs.Claimed.{IsTurnOf, IsOfMoment, IsTaken, IsSound}
use Rattle.group_directory.specs.Claiming.{IsShareOf}
use Rattle.group_directory.specs.Lending.{Keeps, place_of}
use Rattle.group_directory.specs.Lent.{GroupsStay}
use Rattle.group_view.specs.Seen.{Seen, seen, shows, is_shown}
use Rattle.group_directory.specs.Sharing.{picks, AreNamed, IsSameList}
use Rattle.group_directory.specs.Stands.{width_in, rows_in, IsLoanOf, Stands}
use Rattle.group_directory.proofs.Books.{book_is, all-mapped}
use Rattle.group_directory.proofs.CommitLemmas.{opened_more}
use Rattle.group_directory.proofs.GroupLaws.{loan_made, loan_shared, same_lent}
use Rattle.group_directory.proofs.Held.{Lends as LendsFitting, book_same, held_same}
use Rattle.group_directory.proofs.LendLaws.{Rises, InOrder, IsDrawn, choice_in, choice_drawn, named_ids, rises_flush, flush_lends, picked_groups, lent_are, ids_are, stands_lent}
use Rattle.group_directory.proofs.LentLaws.{all_lent, each_held, lent_same, stay_claimed, stay_grown}
use Rattle.group_directory.proofs.LookLaws.{stands_looked}
use Rattle.group_directory.proofs.OpenLemmas.{IsShut}
use Rattle.group_directory.proofs.PackedLaws.{packed_same, packed_view}
use Rattle.group_directory.proofs.Shared.{map-through, same_groups, same_listed, same_open}
use Rattle.group_directory.proofs.StandLaws.{stands_moved, floor_given}

-- ---- a share of a claim

-- a claim of the book is the same for a share
pub share_claim : (actor : Actor) (claim other : Claim) → IsShareOf claim other → claim_of (actor, other) ≡ claim_of (actor, claim)
share_claim actor claim other share = λ i. record {
  actor = actor;
  choice = choice_of (share.choice i);
  sources = ids i;
  fresh = share.fresh i;
  floor = share.floor i;
  lent = versions_of (rows i);
  entries = entries_for (endings_of (share.buffer i)) (versions_of (rows i));
}
  where
    rows : rowed_of other.view ≡ rowed_of claim.view
    rows = same_lent claim other share

    ids : map (λ (group : ℕ × GroupPart). group.0) other.view.groups ≡ map (λ (group : ℕ × GroupPart). group.0) claim.view.groups
    ids = ap (map (λ (group : ℕ × GroupPart). group.0)) share.groups

map_all : {X Y : Type 0} (Q : Y → Type 0) (f : X → Y) (xs : List X) → AllByRecursion (λ x. Q (f x)) xs → AllByRecursion Q (map f xs)
map_all Q f [] all = tt
map_all Q f (x ∷ xs) all = (all.0, map_all Q f xs all.1)

pub share_fits : (claim other : Claim) → IsShareOf claim other → All (λ (p : ℕ × GroupPart). IsFitting p.1) claim.view.groups → All (λ (p : ℕ × GroupPart). IsFitting p.1) other.view.groups
share_fits claim other share fits = subst (All (λ (p : ℕ × GroupPart). IsFitting p.1)) (sym share.groups) fits

pub share_packed : (claim other : Claim) → IsShareOf claim other → All (λ (p : ℕ × GroupPart). IsPackedPart p.1) claim.view.groups → All (λ (p : ℕ × GroupPart). IsPackedPart p.1) other.view.groups
share_packed claim other share all = subst (All (λ (p : ℕ × GroupPart). IsPackedPart p.1)) (sym share.groups) all

-- ---- the place of a new group

shut_place : (fresh : Option ℕ) → AllByRecursion IsShut (place_of fresh)
shut_place None = tt
shut_place (Some id) = (refl, tt)

packed_place : (fresh : Option ℕ) (gs : List Group) → packed_in (gs ++ place_of fresh) ≡ packed_in gs
packed_place None gs = ap packed_in (append-nil gs)
packed_place (Some id) gs = flat_map-append packed_of gs (place_of (Some id)) ∙ append-nil (packed_in gs)

listed_place : (fresh : Option ℕ) (gs : List Group) → listed (gs ++ place_of fresh) ≡ listed gs
listed_place None gs = ap listed (append-nil gs)
listed_place (Some id) [] = refl
listed_place (Some id) (g ∷ gs) = step (is_listed g.content) (listed_place (Some id) gs)
  where
    step : (t : Bool) → listed (gs ++ place_of (Some id)) ≡ listed gs → cond t ((g.id, rowed_in_content g.content) ∷ listed (gs ++ place_of (Some id))) (listed (gs ++ place_of (Some id))) ≡ cond t ((g.id, rowed_in_content g.content) ∷ listed gs) (listed gs)
    step t rest = ap (λ (l : List (ℕ × List Rowed)). cond t ((g.id, rowed_in_content g.content) ∷ l) l) rest

-- ---- the turn

source_shown : (kind : book.Choice) (content : Content) → may_be_source kind content ≡ true → is_shown content ≡ true
source_shown kind (shape.Opened versions) is = refl
source_shown kind (shape.Closed versions) is = refl
source_shown kind (shape.Compressed versions) is = refl
source_shown (kinds.Compress source) shape.Invisible is = cc
source_shown kinds.Flush shape.Invisible is = cc
source_shown (kinds.Rebuild source) shape.Invisible is = cc
source_shown (kinds.Merge first second) shape.Invisible is = cc
source_shown kinds.Settle shape.Invisible is = cc
source_shown kinds.Clear shape.Invisible is = cc
source_shown kinds.Idle shape.Invisible is = cc
source_shown (kinds.Compress source) (shape.Tombstone versions ends) is = cc
source_shown kinds.Flush (shape.Tombstone versions ends) is = cc
source_shown (kinds.Rebuild source) (shape.Tombstone versions ends) is = cc
source_shown (kinds.Merge first second) (shape.Tombstone versions ends) is = cc
source_shown kinds.Settle (shape.Tombstone versions ends) is = cc
source_shown kinds.Clear (shape.Tombstone versions ends) is = cc
source_shown kinds.Idle (shape.Tombstone versions ends) is = cc

-- a flush makes no group
makes_or_flushes : (kind : book.Choice) → makes_group kind ≡ true → kind ≡ kinds.Flush → ⊥
makes_or_flushes kind makes flush = let none : makes_group kinds.Flush ≡ true = ap makes_group (sym flush) ∙ makes in cc

-- what an actor takes to make one group of it
pub record MakesOf (group_rows : ℕ) (whole : Book) (floor : ℕ) (actor : Actor) (kind : book.Choice) (sources : List ℕ) : Type 0 where
  pub takes : MayTake whole actor kind sources
  pub rises : Rises sources
  pub drawn : whole.next ≤ 2 ^ 62
  pub after : after_choice kind floor actor whole ≡ after_claim actor kind sources floor whole

makes_of : (group_rows : ℕ) (whole : Book) (floor : ℕ) (actor : Actor) (kind : book.Choice) (sources : List ℕ) → makes_group kind ≡ true → AreSourcesOf kind sources → MayDo group_rows whole floor actor kind → InOrder kind → IsDrawn whole.next kind
    → MakesOf group_rows whole floor actor kind sources
makes_of group_rows whole floor actor (kinds.Compress source) sources makes named may order drawn =
    subst (MakesOf group_rows whole floor actor (kinds.Compress source)) (sym named) (record { takes = may.takes; rises = (tt, tt); drawn = drawn; after = refl })
makes_of group_rows whole floor actor kinds.Flush sources makes named may order drawn = cc
makes_of group_rows whole floor actor (kinds.Rebuild source) sources makes named may order drawn =
    subst (MakesOf group_rows whole floor actor (kinds.Rebuild source)) (sym named) (record { takes = may.takes; rises = (tt, tt); drawn = drawn; after = refl })
makes_of group_rows whole floor actor (kinds.Merge first second) sources makes named may order drawn =
    subst (MakesOf group_rows whole floor actor (kinds.Merge first second)) (sym named) (record { takes = may.takes; rises = ((order, tt), (tt, tt)); drawn = drawn; after = refl })
makes_of group_rows whole floor actor kinds.Settle sources makes named may order drawn = cc
makes_of group_rows whole floor actor kinds.Clear sources makes named may order drawn = cc
makes_of group_rows whole floor actor kinds.Idle sources makes named may order drawn = cc

module _ (directory : Directory) (cs : List Change) (j : Stands directory cs) where
  abbrev whole : Book
  whole = book_of directory.list

  abbrev g : ℕ
  g = directory.sizes.group_rows

  abbrev items : List Group
  items = directory.list.groups.items

  module _ (turn : Turn) (is : IsTurnOf directory turn) where
    abbrev kind : book.Choice
    kind = choice_of turn.choice

    pub may_do : MayDo g whole turn.floor turn.actor kind
    may_do = subst (MayDo g whole turn.floor turn.actor) (sym is.chosen) (choice_apt g turn.floor whole turn.actor j.book.groups is.none)

    order : InOrder kind
    order = subst InOrder (sym is.chosen) (choice_in turn.floor g turn.actor whole j.book.groups.by_id)

    drawn : IsDrawn whole.next kind
    drawn = subst (IsDrawn whole.next) (sym is.chosen) (choice_drawn turn.floor g turn.actor whole j.book.groups.by_id)

    same_floor : turn.floor ≡ j.floor
    same_floor = floor_given directory cs j turn.floor is.at_floor

    pub book_taken : IsBookOf g (after_choice kind turn.floor turn.actor whole) cs j.floor
    book_taken = subst (IsBookOf g (after_choice kind turn.floor turn.actor whole) cs) same_floor
        (turn_is g whole cs turn.floor (ascending_of cs j.numbered.ascend) turn.actor (subst (IsBookOf g whole cs) (sym same_floor) j.book) kind may_do)

    pub making : (sources : List ℕ) → makes_group kind ≡ true → AreSourcesOf kind sources → MakesOf g whole turn.floor turn.actor kind sources
    making sources makes named = makes_of g whole turn.floor turn.actor kind sources makes named may_do order drawn

    -- ---- the sources

    module _ (sources : List ℕ) (takes : MayTake whole turn.actor kind sources) (rises : Rises sources) where
      each_source : AllByRecursion (λ (group : book.Group). is_id_of sources group ≡ true → may_be_source kind group.content ≡ true) whole.groups
      each_source = weaker (λ (group : book.Group). is_id_of sources group ≡ true → (may_be_source kind group.content ≡ true) × (turns.is_claimed whole.claims group ≡ false))
          (λ (group : book.Group). is_id_of sources group ≡ true → may_be_source kind group.content ≡ true) whole.groups (λ group both source. (both source).0)
          (recursion_from_All (λ (group : book.Group). is_id_of sources group ≡ true → (may_be_source kind group.content ≡ true) × (turns.is_claimed whole.claims group ≡ false)) whole.groups takes.free)

      pub shut_sources : AllByRecursion (λ (group : Group). is_id_of sources (group_of group) ≡ true → is_opened (let seen_group = group_of group in seen_group.content) ≡ false) items
      shut_sources = all-mapped (λ (group : book.Group). is_id_of sources group ≡ true → is_opened group.content ≡ false) group_of items
          (weaker (λ (group : book.Group). is_id_of sources group ≡ true → may_be_source kind group.content ≡ true) (λ (group : book.Group). is_id_of sources group ≡ true → is_opened group.content ≡ false) whole.groups
          (λ group may source. shut_source kind group.content (may source)) each_source)

      there_all : AllByRecursion (IsThere whole.groups) sources
      there_all = recursion_from_All (IsThere whole.groups) sources takes.there

      pub named_sources : map (λ (group : book.Group). group.id) (filter (is_id_of sources) whole.groups) ≡ sources
      named_sources = named_ids sources whole.groups j.book.groups.by_id rises there_all

      pub low_sources : AllByRecursion (λ id. id < whole.next) sources
      low_sources = weaker (IsThere whole.groups) (λ id. id < whole.next) sources (λ id there. there_low whole shape.Invisible j.book.groups.below id there) there_all

      pub are_named : AreNamed sources (map seen directory.list.groups.items)
      are_named = record {
        ids = map-through (λ (group : book.Group). group.id) (λ (s : Seen). s.group) (filter (picks sources) (map seen items)) ∙ ap (map (λ (group : book.Group). group.id)) (picked_groups sources items) ∙ named_sources;
        shown = All-from_recursion (λ (s : Seen). picks sources s ≡ true → shows s ≡ true) (map seen items) (map_all (λ (s : Seen). picks sources s ≡ true → shows s ≡ true) seen items
            (all-mapped (λ (group : book.Group). is_id_of sources group ≡ true → is_shown group.content ≡ true) group_of items
            (weaker (λ (group : book.Group). is_id_of sources group ≡ true → may_be_source kind group.content ≡ true) (λ (group : book.Group). is_id_of sources group ≡ true → is_shown group.content ≡ true) whole.groups
            (λ group may source. source_shown kind group.content (may source)) each_source)));
      }

      -- ---- the list keeps a claim of them

      module _ (fresh : Option ℕ) (entries : List (Key × ℕ)) (list : GroupList) (lent : Claim) (k : Keeps directory.schema.value turn fresh sources entries directory.list list lent) where
        kept_ids : map (λ (p : ℕ × GroupPart). p.0) k.kept.view.groups ≡ sources
        kept_ids = ids_are directory.list sources turn.floor turn.clock k.kept k.lends.view shut_sources named_sources

        kept_lent : versions_of (rowed_of k.kept.view) ≡ turns.versions_of sources whole.groups
        kept_lent = lent_are directory.list sources turn.floor turn.clock k.kept k.lends.view shut_sources named_sources

        claim_kept : claim_of (turn.actor, k.kept) ≡ turns.claim_of turn.actor kind sources fresh turn.floor whole
        claim_kept = λ i. record {
          actor = turn.actor;
          choice = choice_of (k.lends.choice i);
          sources = kept_ids i;
          fresh = k.lends.made i;
          floor = k.lends.floor i;
          lent = kept_lent i;
          entries = entries_for (endings_of (k.lends.view.buffer i)) (kept_lent i);
        }

        groups_kept : (book_of list).groups ≡ whole.groups ++ map group_of (place_of fresh)
        groups_kept = same_groups list.groups.items (items ++ place_of fresh) k.seen_groups ∙ map-append group_of items (place_of fresh)

        claims_kept : (book_of list).claims ≡ turns.claim_of turn.actor kind sources fresh turn.floor whole ∷ whole.claims
        claims_kept = ap (map claim_of) k.claims ∙ ap (λ (claim : book.Claim). claim ∷ whole.claims) claim_kept

        pub held_kept : IsHeld list
        held_kept = record {
          fitting = k.fitting;
          opened = subst (IsOpenAt list.groups.items) (sym k.opened) (same_open (items ++ place_of fresh) list.groups.items directory.list.opened (sym (same_groups list.groups.items (items ++ place_of fresh) k.seen_groups))
              (opened_more items (place_of fresh) directory.list.opened j.held.opened (shut_place fresh)));
          lent = subst (All LendsFitting) (sym k.claims) (All-cons LendsFitting (turn.actor, k.kept) directory.list.claims.items k.lends.view.fitting j.held.lent);
        }

        pub listed_kept : listed list.groups.items ≡ listed directory.list.groups.items
        listed_kept = same_listed list.groups.items (items ++ place_of fresh) k.seen_groups ∙ listed_place fresh items

        packed_kept : packed_in list.groups.items ≡ packed_in directory.list.groups.items
        packed_kept = packed_same list.groups.items (items ++ place_of fresh) k.seen_groups ∙ packed_place fresh items

        -- a flush claims packed groups alone
        flush_packed : kind ≡ kinds.Flush → All (λ (p : ℕ × GroupPart). IsPackedPart p.1) k.kept.view.groups
        flush_packed flush = packed_view (picks sources) items k.kept.view.groups k.lends.view.groups k.lends.view.packed
            (all-mapped (λ (group : book.Group). is_id_of sources group ≡ true → is_compressed group.content ≡ true) group_of items
            (weaker (λ (group : book.Group). is_id_of sources group ≡ true → may_be_source kind group.content ≡ true) (λ (group : book.Group). is_id_of sources group ≡ true → is_compressed group.content ≡ true) whole.groups
            (λ group may source. ap (λ (c : book.Choice). may_be_source c group.content) (sym flush) ∙ may source) each_source))

        module _ (flushes : kind ≡ kinds.Flush → endings_of entries ≡ entries_for whole.buffer (turns.versions_of sources whole.groups)) where
          loan_kept : IsLoanOf directory.schema.value cs (turn.actor, k.kept)
          loan_kept = loan_made directory cs j turn.actor k.kept (picks sources) sources k.lends.of_table k.lends.view.groups k.lends.view.packed k.lends.view.buffer kept_lent
              (λ flush. ap endings_of k.lends.entries ∙ flushes (sym (ap choice_of k.lends.choice) ∙ flush)
              ∙ sym (λ i. entries_for (endings_of (k.lends.view.buffer i)) (kept_lent i)))

          pub sound_kept : IsSound directory.schema.value cs turn.actor (Lent lent)
          sound_kept = (
            share_fits k.kept lent k.share k.lends.view.fitting,
            loan_shared directory.schema.value cs turn.actor k.kept lent k.share loan_kept,
            (λ flush. share_packed k.kept lent k.share (flush_packed (sym (ap choice_of (k.share.choice ∙ k.lends.choice)) ∙ flush))),
          )

          pub stands_kept : (after : Book) → book_of list ≡ after → IsBookOf g after cs j.floor → GroupsStay sources whole after → ((claim : book.Claim) → Contains whole.claims claim → GroupsStay claim.sources whole after)
              → Stands (record directory { list = list }) cs
          stands_kept after after_is is_book own others = stands_moved directory cs j list
              (record {
                held = held_kept;
                rows = subst (λ (groups : List (ℕ × List Rowed)). All (IsMadeRow (width_in directory) cs) (rows_in groups)) (sym listed_kept) j.rows;
                packed = subst (ArePacked directory.schema.value) (sym packed_kept) j.packed;
                loans = subst (All (IsLoanOf directory.schema.value cs)) (sym k.claims) (All-cons (IsLoanOf directory.schema.value cs) (turn.actor, k.kept) directory.list.claims.items loan_kept j.loans);
                lent = subst (All (StandsAsLent (book_of list))) (sym k.claims) (subst (λ (b : Book). All (StandsAsLent b) ((turn.actor, k.kept) ∷ directory.list.claims.items)) (sym after_is)
                    (All-cons (StandsAsLent after) (turn.actor, k.kept) directory.list.claims.items
                    (lent_same whole after (turn.actor, k.kept) (subst (λ (ids : List ℕ). GroupsStay ids whole after) (sym kept_ids) own) (stands_lent directory.list sources turn.floor turn.clock k.kept k.lends.view shut_sources named_sources turn.actor))
                    (all_lent whole after directory.list.claims.items (each_held directory.list (λ (claim : book.Claim). GroupsStay claim.sources whole after) others) j.lent)));
              })
              (subst (λ (b : Book). IsBookOf g b cs j.floor) (sym after_is) is_book)

        moment_kept : (makes_group kind ≡ true → entries ≡ []) → (kind ≡ kinds.Flush → endings_of entries ≡ flushable whole) → IsOfMoment kind turn.floor directory.clock whole lent
        moment_kept none flush = record {
          at_floor = k.share.from ∙ k.lends.view.floor;
          at_clock = k.share.to ∙ k.lends.view.clock ∙ is.at_clock;
          buffer = ap endings_of (k.share.buffer ∙ k.lends.view.buffer);
          none = λ makes. k.share.entries ∙ k.lends.entries ∙ none makes;
          flush = λ flushes. ap endings_of (k.share.entries ∙ k.lends.entries) ∙ flush flushes;
        }

        pub taken_kept : ((makes_group kind ≡ true) ⊎ (kind ≡ kinds.Flush)) → (makes_group kind ≡ true → entries ≡ []) → (kind ≡ kinds.Flush → endings_of entries ≡ flushable whole)
            → book_of list ≡ after_choice kind turn.floor turn.actor whole → IsTaken kind turn.floor turn.actor directory (record directory { list = list }) (Lent lent)
        taken_kept work none flush after = record {
          book = after;
          gives = (
            work,
            ap choice_of (k.share.choice ∙ k.lends.choice),
            ap (map claim_of) k.claims ∙ ap (λ (claim : book.Claim). claim ∷ whole.claims) (sym (share_claim turn.actor k.kept lent k.share)),
            moment_kept none flush,
          );
          claims = (k.kept, k.claims, k.share);
        }

    -- ---- a group is made

    module _ (sources : List ℕ) (makes : makes_group kind ≡ true) (named : AreSourcesOf kind sources) (list : GroupList) (lent : Claim) (k : Keeps directory.schema.value turn (Some directory.list.next) sources [] directory.list list lent) where
      m : MakesOf g whole turn.floor turn.actor kind sources
      m = making sources makes named

      after_made : book_of list ≡ after_claim turn.actor kind sources turn.floor whole
      after_made = book_is (book_of list) (after_claim turn.actor kind sources turn.floor whole) (groups_kept sources m.takes m.rises (Some directory.list.next) [] list lent k) (ap endings_of k.buffer)
          (claims_kept sources m.takes m.rises (Some directory.list.next) [] list lent k) k.next

      no_flush : kind ≡ kinds.Flush → endings_of [] ≡ entries_for whole.buffer (turns.versions_of sources whole.groups)
      no_flush flush = absurd (makes_or_flushes kind makes flush)

      pub stands_made : Stands (record directory { list = list }) cs
      stands_made = stands_kept sources m.takes m.rises (Some directory.list.next) [] list lent k no_flush (after_claim turn.actor kind sources turn.floor whole) after_made
          (subst (λ (b : Book). IsBookOf g b cs j.floor) m.after book_taken)
          (stay_grown sources shape.Invisible whole (low_sources sources m.takes m.rises))
          (λ claim in_list. stay_claimed g whole cs j.floor j.book claim in_list turn.actor kind sources turn.floor)

      pub sound_made : IsSound directory.schema.value cs turn.actor (Lent lent)
      sound_made = sound_kept sources m.takes m.rises (Some directory.list.next) [] list lent k no_flush

      pub taken_made : IsTaken kind turn.floor turn.actor directory (record directory { list = list }) (Lent lent)
      taken_made = taken_kept sources m.takes m.rises (Some directory.list.next) [] list lent k (inl makes) (λ _. refl) (λ flush. absurd (makes_or_flushes kind makes flush)) (after_made ∙ sym m.after)

    -- ---- a flush

    module _ (flush : kind ≡ kinds.Flush) where
      flush_takes : MayTake whole turn.actor kind (flush_sources whole)
      flush_takes = subst (λ (c : book.Choice). MayTake whole turn.actor c (flush_sources whole)) (sym flush) (subst (MayDo g whole turn.floor turn.actor) flush may_do)

      flush_rises : Rises (flush_sources whole)
      flush_rises = rises_flush whole j.book.groups.by_id

      pub flush_named : AreNamed (flush_sources (book_of directory.list)) (map seen directory.list.groups.items)
      flush_named = are_named (flush_sources whole) flush_takes flush_rises

      module _ (entries : List (Key × ℕ)) (are : endings_of entries ≡ flushable whole) (list : GroupList) (lent : Claim) (k : Keeps directory.schema.value turn None (flush_sources whole) entries directory.list list lent) where
        after_flushed : book_of list ≡ after_flush_claim turn.actor (flush_sources whole) turn.floor whole
        after_flushed = book_is (book_of list) (after_flush_claim turn.actor (flush_sources whole) turn.floor whole) (groups_kept (flush_sources whole) flush_takes flush_rises None entries list lent k ∙ append-nil whole.groups) (ap endings_of k.buffer)
            (claims_kept (flush_sources whole) flush_takes flush_rises None entries list lent k ∙ ap (λ (c : book.Choice). turns.claim_of turn.actor c (flush_sources whole) None turn.floor whole ∷ whole.claims) flush) k.next

        entries_are : kind ≡ kinds.Flush → endings_of entries ≡ entries_for whole.buffer (turns.versions_of (flush_sources whole) whole.groups)
        entries_are _ = are ∙ sym (flush_lends whole j.book.groups.by_id)

        by_choice : after_flush_claim turn.actor (flush_sources whole) turn.floor whole ≡ after_choice kind turn.floor turn.actor whole
        by_choice = ap (λ (c : book.Choice). after_choice c turn.floor turn.actor whole) (sym flush)

        pub stands_flush : Stands (record directory { list = list }) cs
        stands_flush = stands_kept (flush_sources whole) flush_takes flush_rises None entries list lent k entries_are (after_flush_claim turn.actor (flush_sources whole) turn.floor whole) after_flushed
            (subst (λ (b : Book). IsBookOf g b cs j.floor) (sym by_choice) book_taken) refl (λ claim in_list. refl)

        pub sound_flush : IsSound directory.schema.value cs turn.actor (Lent lent)
        sound_flush = sound_kept (flush_sources whole) flush_takes flush_rises None entries list lent k entries_are

        pub taken_flush : IsTaken kind turn.floor turn.actor directory (record directory { list = list }) (Lent lent)
        taken_flush = taken_kept (flush_sources whole) flush_takes flush_rises None entries list lent k (inr flush) (λ makes. absurd (makes_or_flushes kind makes flush)) (λ _. are) (after_flushed ∙ by_choice)

  -- ---- where memory is wanting

  pub stands_shared : (list : GroupList) → IsSameList directory.list list → Stands (record directory { list = list }) cs
  stands_shared list same = stands_looked directory cs j list (held_same directory.list list same j.held) (book_same directory.list list same) (same_listed list.groups.items directory.list.groups.items same.seen) (packed_same list.groups.items directory.list.groups.items same.seen) same.claims

pub as_before : (directory : Directory) (list : GroupList) → IsSameList directory.list list → IsAsBefore directory (record directory { list = list })
as_before directory list same = record {
  book = book_same directory.list list same;
  groups = same_listed list.groups.items directory.list.groups.items same.seen;
  packed = packed_same list.groups.items directory.list.groups.items same.seen;
  txns = refl;
  noted = refl;
  clock = refl;
}
