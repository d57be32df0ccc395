-- A commit keeps the book one of the changes.
use Rattle.std.proofs.Common.{◌≡◌, ℕ, zero, suc, ◌<◌, ◌≤◌, ◌+◌, ◌-◌, Bool, true, false, cond, ltb, leb, List, [], ◌∷◌, ◌++◌, map, length, take, drop, refl, sym, ap, subst, ◌∙◌, arith}
use Rattle.std.specs.List.{All, AllByRecursion, list_any}
use Rattle.std.specs.List.Sorted.{IsNonDecreasingBy}
use Rattle.std.proofs.lemmas.Bool.Decides.{nat_tests}
use Rattle.std.proofs.lemmas.List.{length-map, length-take, length_push, get_or-map}
use Rattle.std.proofs.lemmas.List.Elements.{recursion_from_All, All-from_recursion, All-map}
use Rattle.std.proofs.lemmas.List.Sorted.{IsNonDecreasingBy-push, IsNonDecreasingBy-short}
use Rattle.cs_types.specs.declared.Key.{Key}
use Rattle.cs_model.specs.Changes.{Edit, Change}
use Rattle.cs_model.specs.Steps.{numbered}
use Rattle.group_book.specs.Book.{Version, Content, Group, Claim, Book, opened, opened_in, is_opened, is_invisible}
use Rattle.group_book.specs.Book.Content.{Opened, Closed, Compressed, Invisible, Tombstone}
use Rattle.group_book.specs.Commits.{Sizes, replaced_by, inserted_by, ended_by, with_opened, after_ends, direct_parts, new_version, with_group, after_loads, store_of, with_version, stored, after_rest, after_commit}
use Rattle.group_book.specs.Turns.{is_fresh}
use Rattle.group_book.specs.Stocks.{Stems, stock_of}
use Rattle.group_book.specs.Invariant.{begins_of, IsSized, AreById, IsClaim, AreClaims, IsBookOf}
use Rattle.group_book.proofs.Lists.{All-in, all-left, all-right}
use Rattle.group_book.proofs.Changes.{AreAscending, AreBelow}
use Rattle.group_book.proofs.Made.{HasEachKeyOnce}
use Rattle.group_book.proofs.Commit.{low}
use Rattle.group_book.proofs.Inserts.{commit_stock, commit_one}
use Rattle.group_book.proofs.Steady.{changed, by_id_changed, makers_same, claim_changed}
use Rattle.group_book.proofs.Grown.{All-push, new_group, by_id_grown, below_grown, claim_grown}
use Rattle.group_book.proofs.Since.{steady_shut, ended_shut, claim_since}

store_shown : (versions : List Version) (t : Bool) → is_invisible (cond t (Opened versions) (Closed versions)) ≡ false
store_shown versions true = refl
store_shown versions false = refl

module _ (group_rows c : ℕ) (cs : List Change) (floor : ℕ) where
  abbrev IsEarly : Version → Type 0
  IsEarly v = v.begin ≤ c

  -- a group is right in size, and no begin in the open store is above the commit's number
  record IsFilled (content : Content) : Type 0 where
    sized : IsSized group_rows content
    early : All IsEarly (opened_in content)

  -- what each step of a commit keeps of the groups and the claims
  record IsKept (book : Book) : Type 0 where
    by_id : AreById book.groups
    below : All (λ (g : Group). g.id < book.next) book.groups
    filled : All (λ (g : Group). IsFilled g.content) book.groups
    claims : AreClaims group_rows book cs floor

  none_early : All IsEarly []
  none_early = All-from_recursion IsEarly [] tt

  -- ---- the open store changes

  -- a change of the open store alone, which makes no group invisible
  record IsOpenChange (f : Group → Content) : Type 0 where
    shut : (g : Group) → is_opened g.content ≡ false → f g ≡ g.content
    shown : (g : Group) → is_opened g.content ≡ true → is_invisible (f g) ≡ false
    fill : (g : Group) → IsFilled g.content → IsFilled (f g)

  abbrev IsMade : Book → Group → Type 0
  IsMade book g = is_invisible g.content ≡ true → list_any (λ (claim : Claim). is_fresh claim.fresh g) book.claims ≡ true

  was_invisible : (f : Group → Content) → IsOpenChange f → (g : Group) → (t : Bool) → is_opened g.content ≡ t → is_invisible (f g) ≡ true → is_invisible g.content ≡ true
  was_invisible f o g true t_is is = cc (o.shown g t_is, is)
  was_invisible f o g false t_is is = ap is_invisible (sym (o.shut g t_is)) ∙ is

  made_changed : (f : Group → Content) → IsOpenChange f → (book : Book) → All (IsMade book) book.groups → All (IsMade book) (map (changed f) book.groups)
  made_changed f o book made = All-map (IsMade book) (changed f) book.groups
      (All-in (IsMade book) (λ (g : Group). IsMade book (changed f g)) book.groups (λ g _ was is. makers_same f g book.claims ∙ was (was_invisible f o g (is_opened g.content) refl is)) made)

  filled_changed : (f : Group → Content) → IsOpenChange f → (groups : List Group) → All (λ (g : Group). IsFilled g.content) groups → All (λ (g : Group). IsFilled g.content) (map (changed f) groups)
  filled_changed f o groups filled = All-map (λ (g : Group). IsFilled g.content) (changed f) groups (All-in (λ (g : Group). IsFilled g.content) (λ (g : Group). IsFilled (f g)) groups (λ g _ is. o.fill g is) filled)

  kept_changed : (f : Group → Content) → IsOpenChange f → (book : Book) → IsKept book → IsKept (record book { groups = map (changed f) book.groups })
  kept_changed f o book k = record {
    by_id = by_id_changed f book.groups k.by_id;
    below = All-map (λ (g : Group). g.id < book.next) (changed f) book.groups k.below;
    filled = filled_changed f o book.groups k.filled;
    claims = record {
      actors = k.claims.actors;
      sources = k.claims.sources;
      fresh = k.claims.fresh;
      made = made_changed f o book k.claims.made;
      each = All-in (IsClaim group_rows book cs floor) (IsClaim group_rows (record book { groups = map (changed f) book.groups }) cs floor) book.claims (λ claim _ is. claim_changed f group_rows book cs floor claim (steady_shut f o.shut group_rows book cs floor claim is) is) k.claims.each;
    };
  }

  -- ---- a group more

  kept_grown : (content : Content) → is_invisible content ≡ false → IsFilled content → (book : Book) → IsKept book → IsKept (with_group content book)
  kept_grown content shown filled book k = record {
    by_id = by_id_grown book content k.below k.by_id;
    below = below_grown book content k.below;
    filled = All-push (λ (g : Group). IsFilled g.content) book.groups (new_group book content) k.filled filled;
    claims = record {
      actors = k.claims.actors;
      sources = k.claims.sources;
      fresh = k.claims.fresh;
      made = All-push (IsMade book) book.groups (new_group book content) k.claims.made (λ is. cc (is, shown));
      each = All-in (IsClaim group_rows book cs floor) (IsClaim group_rows (with_group content book) cs floor) book.claims (λ claim _ is. claim_grown book content k.below group_rows cs floor claim is) k.claims.each;
    };
  }

  -- ---- rows find their groups

  module _ (room : 1 ≤ group_rows) where
    abbrev nv : Key → Version
    nv key = new_version c key

    loaded : (direct_rows : ℕ) → 1 ≤ direct_rows → (keys : List Key) → direct_rows ≤ length keys → IsFilled (Compressed (map nv (take group_rows keys)))
    loaded direct_rows some keys many =
        let same = length-map (take group_rows keys) nv in
        record { sized = (omega (arith, some, many, same, room, length-take group_rows keys), omega (arith, same, length-take group_rows keys)); early = none_early }

    -- the parts are loaded
    abbrev IsLoaded : Book → List (List Key) × List Key → Type 0
    IsLoaded book parted = IsKept (after_loads c parted.0 book)

    loads_kept : (n : ℕ) (sizes : Sizes) → sizes.group_rows ≡ group_rows → 1 ≤ sizes.direct_rows → (keys : List Key) (book : Book) → IsKept book → IsLoaded book (direct_parts n sizes keys)
    loads_kept zero sizes same some keys book k = k
    loads_kept (suc n) sizes same some keys book k = step (leb sizes.direct_rows (length keys)) refl (λ is. loads_kept n sizes same some (drop sizes.group_rows keys) (with_group (Compressed (map nv (take sizes.group_rows keys))) book) (grown is))
      where
        grown : leb sizes.direct_rows (length keys) ≡ true → IsKept (with_group (Compressed (map nv (take sizes.group_rows keys))) book)
        grown is = kept_grown (Compressed (map nv (take sizes.group_rows keys))) refl (subst (λ m. IsFilled (Compressed (map nv (take m keys)))) (sym same) (loaded sizes.direct_rows some keys (grind (arith, nat_tests)))) book k

        step : (t : Bool) → leb sizes.direct_rows (length keys) ≡ t
            → (t ≡ true → IsLoaded (with_group (Compressed (map nv (take sizes.group_rows keys))) book) (direct_parts n sizes (drop sizes.group_rows keys)))
            → IsLoaded book (cond t (take sizes.group_rows keys ∷ (direct_parts n sizes (drop sizes.group_rows keys)).0, (direct_parts n sizes (drop sizes.group_rows keys)).1) ([], keys))
        step true is rest = rest refl
        step false is rest = k

    -- a store with one version more
    store_filled : (versions : List Version) (key : Key) → length versions < group_rows → IsNonDecreasingBy begins_of versions → All IsEarly versions → IsFilled (store_of group_rows (versions ++ nv key ∷ []))
    store_filled versions key fits up early = step (ltb (length (versions ++ nv key ∷ [])) group_rows) refl
      where
        more : IsNonDecreasingBy begins_of (versions ++ nv key ∷ [])
        more = IsNonDecreasingBy-push begins_of versions (nv key) up (λ d some. early (length versions - 1) d (omega (arith, some)))

        count : length (versions ++ nv key ∷ []) ≡ length versions + 1
        count = length_push versions (nv key)

        step : (t : Bool) → ltb (length (versions ++ nv key ∷ [])) group_rows ≡ t → IsFilled (cond t (Opened (versions ++ nv key ∷ [])) (Closed (versions ++ nv key ∷ [])))
        step true is = record {
          sized = (omega (arith, count), (let lt : length (versions ++ nv key ∷ []) < group_rows = grind (arith, nat_tests) in lt), more);
          early = All-push IsEarly versions (nv key) early (omega arith);
        }
        step false is = record { sized = (omega (arith, count), omega (arith, count, fits), more); early = none_early }

    put_change : (key : Key) → IsOpenChange (λ g. with_version group_rows (nv key) g.content)
    put_change key = record { shut = λ g. shut g.content; shown = λ g. shown g.content; fill = λ g. fill g.content }
      where
        shut : (content : Content) → is_opened content ≡ false → with_version group_rows (nv key) content ≡ content
        shut (Opened versions) is = cc
        shut (Closed versions) is = refl
        shut (Compressed versions) is = refl
        shut Invisible is = refl
        shut (Tombstone versions ends) is = refl

        shown : (content : Content) → is_opened content ≡ true → is_invisible (with_version group_rows (nv key) content) ≡ false
        shown (Opened versions) is = store_shown (versions ++ nv key ∷ []) (ltb (length (versions ++ nv key ∷ [])) group_rows)
        shown (Closed versions) is = cc
        shown (Compressed versions) is = cc
        shown Invisible is = cc
        shown (Tombstone versions ends) is = cc

        fill : (content : Content) → IsFilled content → IsFilled (with_version group_rows (nv key) content)
        fill (Opened versions) filled = store_filled versions key filled.sized.1 filled.sized.2 filled.early
        fill (Closed versions) filled = filled
        fill (Compressed versions) filled = filled
        fill Invisible filled = filled
        fill (Tombstone versions ends) filled = filled

    stored_kept : (key : Key) (book : Book) → IsKept book → IsKept (stored group_rows (nv key) book)
    stored_kept key book k = step (list_any (λ (g : Group). is_opened g.content) book.groups)
      where
        step : (t : Bool) → IsKept (cond t (record book { groups = map (changed (λ g. with_version group_rows (nv key) g.content)) book.groups }) (with_group (store_of group_rows (nv key ∷ [])) book))
        step true = kept_changed (λ g. with_version group_rows (nv key) g.content) (put_change key) book k
        step false = kept_grown (store_of group_rows (nv key ∷ [])) (store_shown (nv key ∷ []) (ltb (length (nv key ∷ [])) group_rows)) (store_filled [] key (omega (arith, room)) (IsNonDecreasingBy-short begins_of [] (omega arith)) none_early) book k

    rest_kept : (keys : List Key) (book : Book) → IsKept book → IsKept (after_rest group_rows c keys book)
    rest_kept [] book k = k
    rest_kept (key ∷ keys) book k = rest_kept keys (stored group_rows (nv key) book) (stored_kept key book k)

-- ---- the commit

module _ (sizes : Sizes) (book : Book) (cs : List Change) (clock floor txn : ℕ) (ws : List Edit) (low_c : AreBelow clock cs) (up : AreAscending cs) (reach : floor ≤ clock) (once : HasEachKeyOnce ws)
    (room : 1 ≤ sizes.group_rows) (some : 1 ≤ sizes.direct_rows) (j : IsBookOf sizes.group_rows book cs floor) where
  abbrev c : ℕ
  c = clock + 1

  abbrev now : List Change
  now = cs ++ numbered c txn ws

  abbrev reps : List Key
  reps = replaced_by cs clock ws

  abbrev Ended : Group → Content
  Ended g = with_opened (map (ended_by reps c)) g.content

  abbrev IsFilledHere : Content → Type 0
  IsFilledHere content = IsFilled sizes.group_rows c now floor content

  -- the open store's versions began before
  early_from : (groups : List Group) → AllByRecursion (λ (v : Version). v.begin ≤ c) (opened groups) → AllByRecursion (λ (g : Group). AllByRecursion (λ (v : Version). v.begin ≤ c) (opened_in g.content)) groups
  early_from [] all = tt
  early_from (g ∷ gs) all = (all-left (λ (v : Version). v.begin ≤ c) (opened_in g.content) (opened gs) all, early_from gs (all-right (λ (v : Version). v.begin ≤ c) (opened_in g.content) (opened gs) all))

  early : AllByRecursion (λ (v : Version). v.begin ≤ c) (opened book.groups)
  early = recursion_from_All (λ (v : Version). v.begin ≤ c) (opened book.groups) (All-in (Stems cs floor) (λ (v : Version). v.begin ≤ c) (opened book.groups) (λ v _ s. let le = low (stock_of book) cs clock floor txn ws low_c up reach once j.stock v s in omega (arith, le)) j.stock.versions.opened)

  filled_before : AllByRecursion (λ (g : Group). IsFilledHere g.content) book.groups
  filled_before = from book.groups (recursion_from_All (λ (g : Group). IsSized sizes.group_rows g.content) book.groups j.groups.sized) (early_from book.groups early)
    where
      from : (groups : List Group) → AllByRecursion (λ (g : Group). IsSized sizes.group_rows g.content) groups → AllByRecursion (λ (g : Group). AllByRecursion (λ (v : Version). v.begin ≤ c) (opened_in g.content)) groups → AllByRecursion (λ (g : Group). IsFilledHere g.content) groups
      from [] sized begun = tt
      from (g ∷ gs) sized begun = (record { sized = sized.0; early = All-from_recursion (λ (v : Version). v.begin ≤ c) (opened_in g.content) begun.0 }, from gs sized.1 begun.1)

  ended_up : (versions : List Version) → IsNonDecreasingBy begins_of versions → IsNonDecreasingBy begins_of (map (ended_by reps c) versions)
  ended_up versions up i k d le within =
      let same = length-map versions (ended_by reps c) in
      let inside : k < length versions = omega (arith, within, same) in
      let at_i = ap begins_of (get_or-map (ended_by reps c) versions i d d (omega (arith, le, inside))) in
      let at_k = ap begins_of (get_or-map (ended_by reps c) versions k d d inside) in
      let below = up i k d le inside in
      omega (arith, at_i, at_k, below)

  ends_change : IsOpenChange sizes.group_rows c now floor Ended
  ends_change = record { shut = ended_shut sizes.group_rows book cs clock floor txn ws low_c up reach once j.stock; shown = λ g. shown g.content; fill = λ g. fill g.content }
    where
      shown : (content : Content) → is_opened content ≡ true → is_invisible (with_opened (map (ended_by reps c)) content) ≡ false
      shown (Opened versions) is = refl
      shown (Closed versions) is = cc
      shown (Compressed versions) is = cc
      shown Invisible is = cc
      shown (Tombstone versions ends) is = cc

      fill : (content : Content) → IsFilledHere content → IsFilledHere (with_opened (map (ended_by reps c)) content)
      fill (Opened versions) filled =
          let same = length-map versions (ended_by reps c) in
          record {
            sized = (let le = filled.sized.0 in omega (arith, le, same), (let lt = filled.sized.1 in omega (arith, lt, same)), ended_up versions filled.sized.2);
            early = All-map (λ (v : Version). v.begin ≤ c) (ended_by reps c) versions filled.early;
          }
      fill (Closed versions) filled = filled
      fill (Compressed versions) filled = filled
      fill Invisible filled = filled
      fill (Tombstone versions ends) filled = filled

  ends_kept : IsKept sizes.group_rows c now floor (after_ends reps c book)
  ends_kept = record {
    by_id = by_id_changed Ended book.groups j.groups.by_id;
    below = All-map (λ (g : Group). g.id < book.next) (changed Ended) book.groups j.groups.below;
    filled = filled_changed sizes.group_rows c now floor Ended ends_change book.groups (All-from_recursion (λ (g : Group). IsFilledHere g.content) book.groups filled_before);
    claims = record {
      actors = j.claims.actors;
      sources = j.claims.sources;
      fresh = j.claims.fresh;
      made = made_changed sizes.group_rows c now floor Ended ends_change book j.claims.made;
      each = All-in (IsClaim sizes.group_rows book cs floor) (IsClaim sizes.group_rows (after_ends reps c book) now floor) book.claims (λ claim _ is. claim_since sizes.group_rows book cs clock floor txn ws low_c up reach once j.stock claim is) j.claims.each;
    };
  }

  abbrev Committed : Book
  Committed = after_commit sizes c reps (inserted_by ws) book

  committed : IsKept sizes.group_rows c now floor Committed
  committed = rest_kept sizes.group_rows c now floor room (direct_parts (length (inserted_by ws)) sizes (inserted_by ws)).1 (after_loads c (direct_parts (length (inserted_by ws)) sizes (inserted_by ws)).0 (after_ends reps c book))
      (loads_kept sizes.group_rows c now floor room (length (inserted_by ws)) sizes refl some (inserted_by ws) (after_ends reps c book) ends_kept)

  sized_in : All (λ (g : Group). IsSized sizes.group_rows g.content) Committed.groups
  sized_in = All-in (λ (g : Group). IsFilledHere g.content) (λ (g : Group). IsSized sizes.group_rows g.content) Committed.groups (λ g _ filled. filled.sized) committed.filled

  pub commit_is : IsBookOf sizes.group_rows (after_commit sizes (clock + 1) reps (inserted_by ws) book) now floor
  commit_is = record {
    stock = commit_stock sizes book cs clock floor txn ws low_c up reach once j.groups.one j.stock;
    groups = record {
      by_id = committed.by_id;
      below = committed.below;
      one = commit_one sizes book cs clock floor txn ws low_c up reach once j.groups.one j.stock;
      sized = sized_in;
    };
    claims = committed.claims;
  }
