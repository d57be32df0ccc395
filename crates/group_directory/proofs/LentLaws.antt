-- The groups of a claim are changed by its install alone, so they stand as they were lent.
use Rattle.std.proofs.Common.{◌≡◌, ℕ, ◌<◌, ◌+◌, Bool, true, false, cond, List, [], ◌∷◌, ◌++◌, map, filter, get_or, not, None, refl, sym, ap, subst, ◌∙◌, arith}
use Rattle.std.specs.Prelude.{◌==◌}
use Rattle.std.specs.List.{All, AllByRecursion, Contains, list_any}
use Rattle.std.proofs.lemmas.Bool.Decides.{nat_tests}
use Rattle.std.proofs.lemmas.List.Elements.{recursion_from_All, All-contains, Contains-get_or}
use Rattle.cs_types.specs.declared.Key.{Key}
use Rattle.cs_model.specs.declared.work.Actor.{Actor}
use Rattle.cs_model.specs.Changes.{Change}
use Rattle.group_book.specs.Book.{Version, Content, Group, Choice, Claim, Book, total, deleted, is_opened, is_closed, is_compressed, is_invisible, is_tombstone}
use Rattle.group_book.specs.Book.Content.{Opened, Closed, Compressed, Invisible, Tombstone}
use Rattle.group_book.specs.Book.Choice.{Compress, Flush, Rebuild, Merge, Settle, Clear, Idle}
use Rattle.group_book.specs.Commits.{ended_by, with_opened, with_version, store_of, new_version, with_group, stored, after_ends, after_loads, after_rest}
use Rattle.group_book.specs.Turns.{is_id_of, is_claimed, is_fresh, is_by, same_actor, with_compressed, settled, flushed, closed, after_claim, installed_with, is_none_left, without_fresh, after_flush, after_release, after_clear, after_settle, after_close}
use Rattle.group_book.specs.Invariant.{may_be_source, IsThere, IsClaim, IsBookOf}
use Rattle.group_book.proofs.Lists.{All-in, all-append, all-filter, all-map, every_one, weaker, list_any-none, list_any-some}
use Rattle.group_book.proofs.Events.{source_is}
use Rattle.group_book.proofs.Grown.{there_low}
use Rattle.group_book.proofs.Installed.{other_source, shut_source}
use Rattle.group_book.proofs.Released.{All-filter-in, untrue}
use Rattle.group_book.proofs.Sized.{sources_kept}
use Rattle.group_book.proofs.Steady.{changed}
use Rattle.group_view.specs.declared.claim.Claim as view
use Rattle.group_view.specs.declared.groups.GroupList.{GroupList}
use Rattle.group_view.specs.declared.parts.GroupPart.{GroupPart}
use Rattle.group_view.specs.Books.{claim_of, book_of, part_versions, group_versions, StandsAsLent}
use Rattle.group_directory.specs.Claiming.{IsShareOf}
use Rattle.group_directory.specs.Lent.{GroupsStay}
use Rattle.group_directory.proofs.EventLaws.{mapped_there}

module _ (sources : List ℕ) where
  -- a change leaves the group, if it is one of the sources
  abbrev Spares : (Group → Content) → Group → Type 0
  Spares f g = is_id_of sources g ≡ true → f g ≡ g.content

  spared : (f : Group → Content) (gs : List Group) → AllByRecursion (Spares f) gs → filter (is_id_of sources) (map (changed f) gs) ≡ filter (is_id_of sources) gs
  spared f [] all = refl
  spared f (g ∷ gs) all = step (is_id_of sources g) all.0 (spared f gs all.1)
    where
      step : (t : Bool) → (t ≡ true → f g ≡ g.content) → filter (is_id_of sources) (map (changed f) gs) ≡ filter (is_id_of sources) gs
          → cond t (changed f g ∷ filter (is_id_of sources) (map (changed f) gs)) (filter (is_id_of sources) (map (changed f) gs)) ≡ cond t (g ∷ filter (is_id_of sources) gs) (filter (is_id_of sources) gs)
      step true same rest = ap (λ (content : Content). record g { content = content } ∷ filter (is_id_of sources) (map (changed f) gs)) (same refl) ∙ ap (λ (l : List Group). g ∷ l) rest
      step false same rest = rest

  pushed : (g0 : Group) → is_id_of sources g0 ≡ false → (gs : List Group) → filter (is_id_of sources) (gs ++ g0 ∷ []) ≡ filter (is_id_of sources) gs
  pushed g0 none [] = rw none refl
  pushed g0 none (g ∷ gs) = ap (λ (l : List Group). cond (is_id_of sources g) (g ∷ l) l) (pushed g0 none gs)

  -- ---- a commit

  abbrev IsShut : Group → Type 0
  IsShut g = is_id_of sources g ≡ true → is_opened g.content ≡ false

  -- no source is the open store, and all stand below the next id
  record IsAside (book : Book) : Type 0 where
    shut : AllByRecursion IsShut book.groups
    low : AllByRecursion (λ id. id < book.next) sources

  -- so it is afterwards, and the sources are the same
  record StaysAside (before after : Book) : Type 0 where
    same : GroupsStay sources before after
    aside : IsAside after

  aside_itself : (book : Book) → IsAside book → StaysAside book book
  aside_itself book a = record { same = refl; aside = a }

  aside_through : (first second third : Book) → StaysAside first second → StaysAside second third → StaysAside first third
  aside_through first second third a b = record { same = b.same ∙ a.same; aside = b.aside }

  new_away : (id : ℕ) (content : Content) → AllByRecursion (λ n. n < id) sources → is_id_of sources (record { id = id; content = content }) ≡ false
  new_away id content low = list_any-none (λ n. n == id) sources (weaker (λ n. n < id) (λ n. (n == id) ≡ false) sources (λ n lt. grind (arith, nat_tests)) low)

  -- a change of the open store alone
  module _ (f : Group → Content) (keeps : (g : Group) → is_opened g.content ≡ false → f g ≡ g.content) where
    spares_shut : (gs : List Group) → AllByRecursion IsShut gs → AllByRecursion (Spares f) gs
    spares_shut gs all = weaker IsShut (Spares f) gs (λ g shut is. keeps g (shut is)) all

    still_shut : (gs : List Group) → AllByRecursion IsShut gs → AllByRecursion IsShut (map (changed f) gs)
    still_shut gs all = all-map IsShut IsShut (changed f) gs (λ g shut is. ap is_opened (keeps g (shut is)) ∙ shut is) all

    aside_changed : (book : Book) → IsAside book → StaysAside book (record book { groups = map (changed f) book.groups })
    aside_changed book a = record {
      same = spared f book.groups (spares_shut book.groups a.shut);
      aside = record { shut = still_shut book.groups a.shut; low = a.low };
    }

  aside_grown : (content : Content) (book : Book) → IsAside book → StaysAside book (with_group content book)
  aside_grown content book a =
      let away = new_away book.next content a.low in
      record {
        same = pushed (record { id = book.next; content = content }) away book.groups;
        aside = record {
          shut = all-append IsShut book.groups (record { id = book.next; content = content } ∷ []) a.shut ((λ is. cc (is, away)), tt);
          low = weaker (λ id. id < book.next) (λ id. id < book.next + 1) sources (λ id lt. omega (arith, lt)) a.low;
        };
      }

  aside_loaded : (c : ℕ) (parts : List (List Key)) (book : Book) → IsAside book → StaysAside book (after_loads c parts book)
  aside_loaded c [] book a = aside_itself book a
  aside_loaded c (part ∷ parts) book a =
      let first = aside_grown (Compressed (map (new_version c) part)) book a in
      aside_through book (with_group (Compressed (map (new_version c) part)) book) (after_loads c (part ∷ parts) book) first
      (aside_loaded c parts (with_group (Compressed (map (new_version c) part)) book) first.aside)

  put_keeps : (group_rows : ℕ) (version : Version) (g : Group) → is_opened g.content ≡ false → with_version group_rows version g.content ≡ g.content
  put_keeps group_rows version g = step g.content
    where
      step : (content : Content) → is_opened content ≡ false → with_version group_rows version content ≡ content
      step (Opened versions) is = cc
      step (Closed versions) is = refl
      step (Compressed versions) is = refl
      step Invisible is = refl
      step (Tombstone versions ends) is = refl

  ends_keep : (replaced : List Key) (c : ℕ) (g : Group) → is_opened g.content ≡ false → with_opened (map (ended_by replaced c)) g.content ≡ g.content
  ends_keep replaced c g = step g.content
    where
      step : (content : Content) → is_opened content ≡ false → with_opened (map (ended_by replaced c)) content ≡ content
      step (Opened versions) is = cc
      step (Closed versions) is = refl
      step (Compressed versions) is = refl
      step Invisible is = refl
      step (Tombstone versions ends) is = refl

  aside_stored : (group_rows : ℕ) (version : Version) (book : Book) → IsAside book → StaysAside book (stored group_rows version book)
  aside_stored group_rows version book a = step (list_any (λ (g : Group). is_opened g.content) book.groups)
    where
      step : (t : Bool) → StaysAside book (cond t (record book { groups = map (changed (λ g. with_version group_rows version g.content)) book.groups }) (with_group (store_of group_rows (version ∷ [])) book))
      step true = aside_changed (λ g. with_version group_rows version g.content) (put_keeps group_rows version) book a
      step false = aside_grown (store_of group_rows (version ∷ [])) book a

  aside_rest : (group_rows c : ℕ) (keys : List Key) (book : Book) → IsAside book → StaysAside book (after_rest group_rows c keys book)
  aside_rest group_rows c [] book a = aside_itself book a
  aside_rest group_rows c (key ∷ keys) book a =
      let first = aside_stored group_rows (new_version c key) book a in
      aside_through book (stored group_rows (new_version c key) book) (after_rest group_rows c (key ∷ keys) book) first (aside_rest group_rows c keys (stored group_rows (new_version c key) book) first.aside)

  aside_ended : (replaced : List Key) (c : ℕ) (book : Book) → IsAside book → StaysAside book (after_ends replaced c book)
  aside_ended replaced c book a =
      let changes = aside_changed (λ g. with_opened (map (ended_by replaced c)) g.content) (ends_keep replaced c) book a in
      record { same = changes.same; aside = record { shut = changes.aside.shut; low = changes.aside.low } }

  aside_committed : (size c : ℕ) (replaced rest : List Key) (loads : List (List Key)) (book : Book) → IsAside book → StaysAside book (after_rest size c rest (after_loads c loads (after_ends replaced c book)))
  aside_committed size c replaced rest loads book a =
      let ended = aside_ended replaced c book a in
      let loaded = aside_loaded c loads (after_ends replaced c book) ended.aside in
      aside_through book (after_loads c loads (after_ends replaced c book)) (after_rest size c rest (after_loads c loads (after_ends replaced c book)))
      (aside_through book (after_ends replaced c book) (after_loads c loads (after_ends replaced c book)) ended loaded)
      (aside_rest size c rest (after_loads c loads (after_ends replaced c book)) loaded.aside)

-- a new group leaves groups of lower ids
pub stay_grown : (sources : List ℕ) (content : Content) (book : Book) → AllByRecursion (λ id. id < book.next) sources → GroupsStay sources book (with_group content book)
stay_grown sources content book low = pushed sources (record { id = book.next; content = content }) (new_away sources book.next content low) book.groups

close_keeps : (g : Group) → is_opened g.content ≡ false → closed g.content ≡ g.content
close_keeps g = step g.content
  where
    step : (content : Content) → is_opened content ≡ false → closed content ≡ content
    step (Opened versions) is = cc
    step (Closed versions) is = refl
    step (Compressed versions) is = refl
    step Invisible is = refl
    step (Tombstone versions ends) is = refl

-- a source is no tombstone
closed_no : (content : Content) → is_closed content ≡ true → is_tombstone content ≡ false
closed_no (Opened versions) is = cc
closed_no (Closed versions) is = refl
closed_no (Compressed versions) is = cc
closed_no Invisible is = cc
closed_no (Tombstone versions ends) is = cc

packed_no : (content : Content) → is_compressed content ≡ true → is_tombstone content ≡ false
packed_no (Opened versions) is = cc
packed_no (Closed versions) is = cc
packed_no (Compressed versions) is = refl
packed_no Invisible is = cc
packed_no (Tombstone versions ends) is = cc

source_no : (choice : Choice) (content : Content) → may_be_source choice content ≡ true → is_tombstone content ≡ false
source_no (Compress source) content is = closed_no content is
source_no Flush content is = packed_no content is
source_no (Rebuild source) content is = packed_no content is
source_no (Merge first second) content is = packed_no content is
source_no Settle content is = cc
source_no Clear content is = cc
source_no Idle content is = cc

not_so : (t : Bool) → (t ≡ true → ⊥) → t ≡ false
not_so true h = absurd (h refl)
not_so false h = refl

claimed_same : (t : Bool) (content other : Content) → t ≡ true → cond t content other ≡ content
claimed_same true content other is = refl
claimed_same false content other is = cc

pub stay_settled : (book : Book) (at : ℕ) (claim : Claim) → Contains book.claims claim → GroupsStay claim.sources book (after_settle at book)
stay_settled book at claim in_list = spared claim.sources (λ g. cond (is_claimed book.claims g) g.content (with_compressed (map (settled at)) g.content)) book.groups (each book.groups)
  where
    each : (gs : List Group) → AllByRecursion (λ g. is_id_of claim.sources g ≡ true → cond (is_claimed book.claims g) g.content (with_compressed (map (settled at)) g.content) ≡ g.content) gs
    each [] = tt
    each (g ∷ gs) = (
      (λ is. claimed_same (is_claimed book.claims g) g.content (with_compressed (map (settled at)) g.content) (list_any-some (λ (other : Claim). is_id_of other.sources g) book.claims in_list.0 claim in_list.1 (rw in_list.2 is))),
      each gs,
    )

module _ (group_rows : ℕ) (book : Book) (cs : List Change) (floor : ℕ) (j : IsBookOf group_rows book cs floor) where
  claim_is : (claim : Claim) → Contains book.claims claim → IsClaim group_rows book cs floor claim
  claim_is claim in_list = All-contains (IsClaim group_rows book cs floor) book.claims claim j.claims.each in_list

  -- what is true of each group that a claim has is true group by group
  each_source : (claim : Claim) → Contains book.claims claim → (P : Group → Type 0) → ((g : Group) → Contains book.groups g → may_be_source claim.choice g.content ≡ true → P g) → AllByRecursion (λ g. is_id_of claim.sources g ≡ true → P g) book.groups
  each_source claim in_list P holds = recursion_from_All (λ g. is_id_of claim.sources g ≡ true → P g) book.groups
      (All-in (λ (g : Group). is_id_of claim.sources g ≡ true → may_be_source claim.choice g.content ≡ true) (λ g. is_id_of claim.sources g ≡ true → P g) book.groups (λ g in_groups source is. holds g in_groups (source is)) (claim_is claim in_list).sources)

  aside_claimed : (claim : Claim) → Contains book.claims claim → IsAside claim.sources book
  aside_claimed claim in_list = record {
    shut = each_source claim in_list (λ g. is_opened g.content ≡ false) (λ g _ source. shut_source claim.choice g.content source);
    low = weaker (IsThere book.groups) (λ id. id < book.next) claim.sources (λ id there. there_low book Invisible j.groups.below id there) (recursion_from_All (IsThere book.groups) claim.sources (claim_is claim in_list).there);
  }

  pub stay_committed : (claim : Claim) → Contains book.claims claim → (size c : ℕ) (replaced rest : List Key) (loads : List (List Key)) → GroupsStay claim.sources book (after_rest size c rest (after_loads c loads (after_ends replaced c book)))
  stay_committed claim in_list size c replaced rest loads = (aside_committed claim.sources size c replaced rest loads book (aside_claimed claim in_list)).same

  pub stay_closed : (claim : Claim) → Contains book.claims claim → GroupsStay claim.sources book (after_close book)
  stay_closed claim in_list = (aside_changed claim.sources (λ g. closed g.content) close_keeps book (aside_claimed claim in_list)).same

  pub stay_claimed : (claim : Claim) → Contains book.claims claim → (actor : Actor) (choice : Choice) (sources : List ℕ) (at : ℕ) → GroupsStay claim.sources book (after_claim actor choice sources at book)
  stay_claimed claim in_list actor choice sources at = (aside_grown claim.sources Invisible book (aside_claimed claim in_list)).same

  -- the group that a claim makes is no source
  fresh_away : (claim other : Claim) → Contains book.claims claim → Contains book.claims other → AllByRecursion (λ g. is_id_of other.sources g ≡ true → is_fresh claim.fresh g ≡ false) book.groups
  fresh_away claim other in_list in_other = each_source other in_other (λ g. is_fresh claim.fresh g ≡ false) (λ g in_groups source. not_so (is_fresh claim.fresh g) (λ fresh.
      let invisible = All-contains (λ (h : Group). is_fresh claim.fresh h ≡ true → is_invisible h.content ≡ true) book.groups g (claim_is claim in_list).fresh in_groups fresh in
      let shown = (source_is other.choice g.content source).1 in
      cc (invisible, shown)))

  gone_away : (p : Group → Bool) (sources : List ℕ) → AllByRecursion (λ g. is_id_of sources g ≡ true → p g ≡ false) book.groups → filter (is_id_of sources) (filter (λ g. not (p g)) book.groups) ≡ filter (is_id_of sources) book.groups
  gone_away p sources all = sources_kept p sources None book.groups
      (weaker (λ g. is_id_of sources g ≡ true → p g ≡ false) (λ g. p g ≡ true → (is_id_of sources g ≡ false) × (false ≡ false)) book.groups (λ g apart is. (not_so (is_id_of sources g) (λ source. let no = apart source in cc (is, no)), refl)) all)

  pub stay_cleared : (claim : Claim) → Contains book.claims claim → GroupsStay claim.sources book (after_clear book)
  stay_cleared claim in_list = gone_away (λ g. is_tombstone g.content) claim.sources (each_source claim in_list (λ g. is_tombstone g.content ≡ false) (λ g _ source. source_no claim.choice g.content source))

  pub stay_released : (claim other : Claim) → Contains book.claims claim → Contains book.claims other → GroupsStay other.sources book (after_release claim book)
  stay_released claim other in_list in_other = gone_away (is_fresh claim.fresh) other.sources (fresh_away claim other in_list in_other)

  -- ---- the install of another claim

  module _ (claim other : Claim) (in_list : Contains book.claims claim) (in_other : Contains book.claims other) (by : is_by claim.actor other ≡ false) where
    apart : (g : Group) → is_id_of other.sources g ≡ true → is_id_of claim.sources g ≡ false
    apart g is = other_source group_rows book cs floor claim j in_list other in_other by g is

    pub stay_flushed : GroupsStay other.sources book (after_flush claim book)
    stay_flushed = spared other.sources content book.groups (every_one (Spares other.sources content) (λ g is. ap (λ (t : Bool). cond t (with_compressed (map (flushed book.buffer claim.entries)) g.content) g.content) (apart g is)) book.groups)
      where
        content : Group → Content
        content g = cond (is_id_of claim.sources g) (with_compressed (map (flushed book.buffer claim.entries)) g.content) g.content

    module _ (versions : List Version) where
      abbrev made : Group → Content
      made g = cond (is_id_of claim.sources g) (Tombstone (total g.content) (deleted g.content)) (cond (is_fresh claim.fresh g) (Compressed versions) g.content)

      spares_made : AllByRecursion (Spares other.sources made) book.groups
      spares_made = weaker (λ g. is_id_of other.sources g ≡ true → is_fresh claim.fresh g ≡ false) (Spares other.sources made) book.groups (λ g fresh is. let no = apart g is in let old = fresh is in rw (no, old) refl) (fresh_away claim other in_list in_other)

      pub stay_installed : GroupsStay other.sources book (installed_with versions claim book)
      stay_installed = step (is_none_left versions)
        where
          step : (t : Bool) → filter (is_id_of other.sources) (map (changed made) (cond t (without_fresh claim.fresh book.groups) book.groups)) ≡ filter (is_id_of other.sources) book.groups
          step true =
              spared other.sources made (without_fresh claim.fresh book.groups) (all-filter (Spares other.sources made) (Spares other.sources made) (λ g. not (is_fresh claim.fresh g)) book.groups (λ g spares _. spares) spares_made)
              ∙ gone_away (is_fresh claim.fresh) other.sources (fresh_away claim other in_list in_other)
          step false = spared other.sources made book.groups spares_made

-- ---- claims stand as they were lent

abbrev Entry : Type 0
Entry = ℕ × List Version

pub lent_same : (before after : Book) (held : Actor × view.Claim) → GroupsStay (claim_of held).sources before after → StandsAsLent before held → StandsAsLent after held
lent_same before after held stay lent = lent ∙ ap (map group_versions) (sym stay)

pub all_lent : (before after : Book) (claims : List (Actor × view.Claim)) → All (λ held. GroupsStay (claim_of held).sources before after) claims → All (StandsAsLent before) claims → All (StandsAsLent after) claims
all_lent before after claims stay lent k d inside = lent_same before after (get_or claims k d) (stay k d inside) (lent k d inside)

pub others_lent : (before after : Book) (claims : List (Actor × view.Claim)) (actor : Actor) → All (λ held. same_actor held.0 actor ≡ false → GroupsStay (claim_of held).sources before after) claims
    → All (StandsAsLent before) claims → All (StandsAsLent after) (filter (λ held. not (same_actor held.0 actor)) claims)
others_lent before after claims actor stay lent = All-filter-in (StandsAsLent after) (λ held. not (same_actor held.0 actor)) claims (λ held in_list kept.
    lent_same before after held (All-contains (λ other. same_actor other.0 actor ≡ false → GroupsStay (claim_of other).sources before after) claims held stay in_list (untrue (same_actor held.0 actor) kept))
    (All-contains (StandsAsLent before) claims held lent in_list))

-- what is true of the claims of a list's book is true of those that it keeps
pub each_held : (list : GroupList) (P : Claim → Type 0) → ((claim : Claim) → Contains (book_of list).claims claim → P claim) → All (λ (held : Actor × view.Claim). P (claim_of held)) list.claims.items
each_held list P holds k d inside =
    let held = get_or list.claims.items k d in
    holds (claim_of held) (mapped_there claim_of list.claims.items held (Contains-get_or list.claims.items k d inside))

-- a list with the same claims, in whose book their groups are the same
pub lent_moved : (old new : GroupList) (after : Book) → book_of new ≡ after → new.claims.items ≡ old.claims.items → ((claim : Claim) → Contains (book_of old).claims claim → GroupsStay claim.sources (book_of old) after)
    → All (StandsAsLent (book_of old)) old.claims.items → All (StandsAsLent (book_of new)) new.claims.items
lent_moved old new after is claims stay lent =
    subst (All (StandsAsLent (book_of new))) (sym claims) (subst (λ (whole : Book). All (StandsAsLent whole) old.claims.items) (sym is)
    (all_lent (book_of old) after old.claims.items (each_held old (λ (claim : Claim). GroupsStay claim.sources (book_of old) after) stay) lent))

pub share_lent : (book : Book) (actor : Actor) (claim other : view.Claim) → IsShareOf claim other → StandsAsLent book (actor, claim) → StandsAsLent book (actor, other)
share_lent book actor claim other share lent =
    subst (λ (parts : List (ℕ × GroupPart)). map part_versions parts ≡ map group_versions (filter (is_id_of (map (λ (part : ℕ × GroupPart). part.0) parts)) book.groups)) (sym share.groups) lent
