-- What a claim lends is what its groups are in the book.
use Rattle.std.proofs.Common.{◌≡◌, ℕ, ◌<◌, ◌≤◌, ◌+◌, ◌^◌, Bool, true, false, ◌&&◌, ◌||◌, cond, leb, List, [], ◌∷◌, ◌++◌, map, filter, length, not, Option, Some, None, refl, sym, ap, subst, ◌∙◌, arith}
use Rattle.std.specs.Prelude.{◌==◌}
use Rattle.std.specs.List.{All, AllByRecursion, Contains, list_any, flat_map}
use Rattle.std.specs.Option.{option_map}
use Rattle.std.proofs.lemmas.Bool.Decides.{nat_tests}
use Rattle.std.proofs.lemmas.List.{map-append}
use Rattle.std.proofs.lemmas.List.Elements.{recursion_from_All, All-contains, All-contains_itself, All-from_recursion, All-push}
use Rattle.std.proofs.lemmas.List.Folds.{list_any-append}
use Rattle.cs_types.specs.declared.Schema.{Schema}
use Rattle.cs_model.specs.declared.work.Actor.{Actor}
use Rattle.cs_model.specs.declared.work.Actor.TheVariants.{Session, Mover}
use Rattle.group_book.specs.Book as book
use Rattle.group_book.specs.Book.{Version, Ending, Content, Choice, Book, frozen, frozen_in, is_opened, is_compressed}
use Rattle.group_book.specs.Book.Choice.{Compress, Flush, Rebuild, Merge, Settle, Clear, Idle}
use Rattle.group_book.specs.Choices.{choice, choices, first_some, allowed, if_mover, merge_of, some_if, lowest, is_thin, free, free_packed, flushable, flush_sources, settling_count, tombstone_count}
use Rattle.group_book.specs.Turns as turns
use Rattle.group_book.specs.Turns.{is_id_of, is_claimed, ends, entries_for}
use Rattle.group_book.specs.Invariant.{AreById, IsThere}
use Rattle.group_book.proofs.Chosen.{first_pair_is}
use Rattle.group_book.proofs.Lists.{every_one, list_any-found, none_pass, weaker}
use Rattle.group_book.proofs.Sized.{by_id_filter}
use Rattle.group_view.specs.declared.claim.Claim.{Claim}
use Rattle.group_view.specs.declared.groups.GroupContent.{GroupContent}
use Rattle.group_view.specs.declared.groups.GroupContent.TheVariants.{Opened, Closed, Compressed, Invisible, Tombstone}
use Rattle.group_view.specs.declared.groups.Group.{Group}
use Rattle.group_view.specs.declared.groups.GroupList.{GroupList}
use Rattle.group_view.specs.declared.parts.GroupPart.{GroupPart}
use Rattle.group_view.specs.Parts.{Rowed, rowed_in}
use Rattle.group_view.specs.Lists.{IsFittingContent}
use Rattle.group_view.specs.Views.{rowed_of}
use Rattle.group_view.specs.Books.{versions_of, content_of, group_of, rowed_in_content, book_of, part_versions, group_versions, StandsAsLent}
use Rattle.group_directory.specs.declared.claims.Turn.{Turn}
use Rattle.group_directory.specs.Claiming.{IsShareOf}
use Rattle.group_directory.specs.Lending.{Lends, Keeps, place_of}
use Rattle.group_view.specs.Seen.{Seen, seen, entry_of, part_entry}
use Rattle.group_directory.specs.Sharing.{picks, IsViewOf}
use Rattle.group_directory.proofs.Shared.{map-through}

-- ---- lists

same_filter : {X : Type 0} (p q : X → Bool) (xs : List X) → AllByRecursion (λ x. p x ≡ q x) xs → filter p xs ≡ filter q xs
same_filter p q [] all = refl
same_filter p q (x ∷ xs) all = ap (λ t. cond t (x ∷ filter p xs) (filter p xs)) all.0 ∙ ap (λ l. cond (q x) (x ∷ l) l) (same_filter p q xs all.1)

filter_both : {X : Type 0} (p q : X → Bool) (xs : List X) → filter q (filter p xs) ≡ filter (λ x. p x && q x) xs
filter_both p q [] = refl
filter_both p q (x ∷ xs) = step (p x) (filter_both p q xs)
  where
    step : (t : Bool) → filter q (filter p xs) ≡ filter (λ y. p y && q y) xs → filter q (cond t (x ∷ filter p xs) (filter p xs)) ≡ cond (t && q x) (x ∷ filter (λ y. p y && q y) xs) (filter (λ y. p y && q y) xs)
    step true rest = ap (λ l. cond (q x) (x ∷ l) l) rest
    step false rest = rest

-- ---- groups by id

abbrev id_of : book.Group → ℕ
id_of group = group.id

-- each number is below those after it
abbrev pub Rises : List ℕ → Type 0
Rises [] = Unit {0}
Rises (n ∷ ns) = AllByRecursion (λ m. n < m) ns × Rises ns

above_ids : (n : ℕ) (gs : List book.Group) → AllByRecursion (λ (h : book.Group). n < h.id) gs → AllByRecursion (λ m. n < m) (map id_of gs)
above_ids n [] all = tt
above_ids n (g ∷ gs) all = (all.0, above_ids n gs all.1)

pub rises_ids : (gs : List book.Group) → AreById gs → Rises (map (λ (group : book.Group). group.id) gs)
rises_ids [] up = tt
rises_ids (g ∷ gs) up = (above_ids g.id gs up.0, rises_ids gs up.1)

higher : (n : ℕ) (gs : List book.Group) → AllByRecursion (λ (h : book.Group). n < h.id) gs → (id : ℕ) → IsThere gs id → n < id
higher n gs all id is =
    let found = list_any-found (λ (h : book.Group). h.id == id) (λ (h : book.Group). n < h.id) gs all is in
    let same : found.0.id ≡ id = let e = found.1 in grind (arith, nat_tests) in
    let lt = found.2 in
    omega (arith, same, lt)

less_apart : (a b : ℕ) → a < b → (a == b) ≡ false
less_apart a b lt = grind (arith, nat_tests)

more_apart : (a b : ℕ) → b < a → (a == b) ≡ false
more_apart a b lt = grind (arith, nat_tests)

rest_there : (g : book.Group) (gs : List book.Group) (id : ℕ) → (g.id == id) ≡ false → IsThere (g ∷ gs) id → IsThere gs id
rest_there g gs id apart is = ap (λ t. t || list_any (λ (h : book.Group). h.id == id) gs) (sym apart) ∙ is

none_picked : (gs : List book.Group) → map id_of (filter (is_id_of []) gs) ≡ []
none_picked [] = refl
none_picked (g ∷ gs) = none_picked gs

turned_apart : (a b : ℕ) → (a == b) ≡ false → (b == a) ≡ false
turned_apart a b apart = grind (arith, nat_tests)

-- ids above the first group's are others
none_above : (n : ℕ) (ms : List ℕ) → AllByRecursion (λ m. n < m) ms → list_any (λ m. m == n) ms ≡ false
none_above n [] all = refl
none_above n (m ∷ ms) all = ap (λ t. t || list_any (λ k. k == n) ms) (more_apart m n all.0) ∙ none_above n ms all.1

rest_above : (g : book.Group) (gs : List book.Group) (ms : List ℕ) → AllByRecursion (λ m. g.id < m) ms → AllByRecursion (IsThere (g ∷ gs)) ms → AllByRecursion (IsThere gs) ms
rest_above g gs [] all in_groups = tt
rest_above g gs (m ∷ ms) all in_groups = (rest_there g gs m (less_apart g.id m all.0) in_groups.0, rest_above g gs ms all.1 in_groups.1)

-- rising ids that are all there are those of the groups that they pick
pub named_ids : (sources : List ℕ) (gs : List book.Group) → AreById gs → Rises sources → AllByRecursion (IsThere gs) sources → map (λ (group : book.Group). group.id) (filter (is_id_of sources) gs) ≡ sources
named_ids [] gs up rise there = none_picked gs
named_ids (s ∷ ss) [] up rise there = absurd (let none = there.0 in cc)
named_ids (s ∷ ss) (g ∷ gs) up rise there = step (s == g.id) refl (λ left. named_ids ss gs up.1 rise.1 left) (λ left. named_ids (s ∷ ss) gs up.1 rise left)
  where
    step : (t : Bool) → (s == g.id) ≡ t → (AllByRecursion (IsThere gs) ss → map id_of (filter (is_id_of ss) gs) ≡ ss) → (AllByRecursion (IsThere gs) (s ∷ ss) → map id_of (filter (is_id_of (s ∷ ss)) gs) ≡ s ∷ ss)
        → map id_of (filter (is_id_of (s ∷ ss)) (g ∷ gs)) ≡ s ∷ ss
    step true is found missed =
        let same : s ≡ g.id = grind (arith, nat_tests) in
        let rest = same_filter (is_id_of (s ∷ ss)) (is_id_of ss) gs (weaker (λ (h : book.Group). g.id < h.id) (λ h. is_id_of (s ∷ ss) h ≡ is_id_of ss h) gs (λ h lt. let low : s < h.id = omega (arith, same, lt) in ap (λ t. t || is_id_of ss h) (less_apart s h.id low)) up.0) in
        let left = rest_above g gs ss (weaker (λ m. s < m) (λ m. g.id < m) ss (λ m lt. omega (arith, same, lt)) rise.0) there.1 in
        ap (λ t. map id_of (cond (t || list_any (λ m. m == g.id) ss) (g ∷ filter (is_id_of (s ∷ ss)) gs) (filter (is_id_of (s ∷ ss)) gs))) is
        ∙ ap (λ (n : ℕ). n ∷ map id_of (filter (is_id_of (s ∷ ss)) gs)) (sym same)
        ∙ ap (λ l. s ∷ map id_of l) rest
        ∙ ap (λ l. s ∷ l) (found left)
    step false is found missed =
        let first = rest_there g gs s (turned_apart s g.id is) there.0 in
        let low = higher g.id gs up.0 s first in
        let above = weaker (λ m. s < m) (λ m. g.id < m) ss (λ m lt. omega (arith, low, lt)) rise.0 in
        let left = rest_above g gs ss above there.1 in
        ap (λ t. map id_of (cond (t || list_any (λ m. m == g.id) ss) (g ∷ filter (is_id_of (s ∷ ss)) gs) (filter (is_id_of (s ∷ ss)) gs))) is
        ∙ ap (λ t. map id_of (cond t (g ∷ filter (is_id_of (s ∷ ss)) gs) (filter (is_id_of (s ∷ ss)) gs))) (none_above g.id ss above)
        ∙ missed (first, left)

above_kept : (n : ℕ) (p : book.Group → Bool) (hs : List book.Group) → AllByRecursion (λ (h : book.Group). n < h.id) hs → list_any (λ m. m == n) (map id_of (filter p hs)) ≡ false
above_kept n p [] all = refl
above_kept n p (h ∷ hs) all = step (p h) (above_kept n p hs all.1)
  where
    step : (t : Bool) → list_any (λ m. m == n) (map id_of (filter p hs)) ≡ false → list_any (λ m. m == n) (map id_of (cond t (h ∷ filter p hs) (filter p hs))) ≡ false
    step true rest = ap (λ t. t || list_any (λ m. m == n) (map id_of (filter p hs))) (more_apart h.id n all.0) ∙ rest
    step false rest = rest

-- the groups of the ids of those that pass are these
by_ids : (p : book.Group → Bool) (gs : List book.Group) → AreById gs → filter (is_id_of (map id_of (filter p gs))) gs ≡ filter p gs
by_ids p [] up = refl
by_ids p (g ∷ gs) up = step (p g) (by_ids p gs up.1)
  where
    itself : (g.id == g.id) ≡ true
    itself = grind (arith, nat_tests)

    step : (t : Bool) → filter (is_id_of (map id_of (filter p gs))) gs ≡ filter p gs → filter (is_id_of (map id_of (cond t (g ∷ filter p gs) (filter p gs)))) (g ∷ gs) ≡ cond t (g ∷ filter p gs) (filter p gs)
    step true rest =
        ap (λ t. cond (t || list_any (λ m. m == g.id) (map id_of (filter p gs))) (g ∷ filter (is_id_of (g.id ∷ map id_of (filter p gs))) gs) (filter (is_id_of (g.id ∷ map id_of (filter p gs))) gs)) itself
        ∙ ap (λ l. g ∷ l) (same_filter (is_id_of (g.id ∷ map id_of (filter p gs))) (is_id_of (map id_of (filter p gs))) gs (weaker (λ (h : book.Group). g.id < h.id) (λ h. is_id_of (g.id ∷ map id_of (filter p gs)) h ≡ is_id_of (map id_of (filter p gs)) h) gs
        (λ h lt. ap (λ t. t || is_id_of (map id_of (filter p gs)) h) (less_apart g.id h.id lt)) up.0) ∙ rest)
    step false rest = ap (λ t. cond t (g ∷ filter (is_id_of (map id_of (filter p gs))) gs) (filter (is_id_of (map id_of (filter p gs))) gs)) (above_kept g.id p gs up.0) ∙ rest

-- ---- the choice of a turn

-- the groups of a merge are named by id
abbrev pub InOrder : Choice → Type 0
InOrder (Compress source) = Unit {0}
InOrder Flush = Unit {0}
InOrder (Rebuild source) = Unit {0}
InOrder (Merge first second) = first < second
InOrder Settle = Unit {0}
InOrder Clear = Unit {0}
InOrder Idle = Unit {0}

abbrev InOrderIf : Option Choice → Type 0
InOrderIf None = Unit {0}
InOrderIf (Some made) = InOrder made

-- where a group is made, its id is at most 2^62
abbrev pub IsDrawn : ℕ → Choice → Type 0
IsDrawn next (Compress source) = next ≤ 2 ^ 62
IsDrawn next Flush = Unit {0}
IsDrawn next (Rebuild source) = next ≤ 2 ^ 62
IsDrawn next (Merge first second) = next ≤ 2 ^ 62
IsDrawn next Settle = Unit {0}
IsDrawn next Clear = Unit {0}
IsDrawn next Idle = Unit {0}

module _ (floor group_rows : ℕ) (by : Actor) (whole : Book) (up : AreById whole.groups) where
  packed_up : AreById (free_packed whole)
  packed_up = by_id_filter (λ (g : book.Group). is_compressed g.content) (free whole) (by_id_filter (λ g. not (is_claimed whole.claims g)) whole.groups up)

  any_if : (made : Choice) → InOrder made → (t : Bool) → InOrderIf (some_if t made)
  any_if made is true = is
  any_if made is false = tt

  some_compress : (o : Option ℕ) → InOrderIf (option_map Compress o)
  some_compress None = tt
  some_compress (Some id) = tt

  some_rebuild : (o : Option ℕ) → InOrderIf (option_map Rebuild o)
  some_rebuild None = tt
  some_rebuild (Some id) = tt

  first_in : (made : List (Option Choice)) → AllByRecursion InOrderIf made → InOrder (first_some made)
  first_in [] all = tt
  first_in (None ∷ rest) all = first_in rest all.1
  first_in (Some c ∷ rest) all = all.0

  drawn_in : (made : Choice) → InOrder made → (t : Bool) → InOrder (cond t made Idle)
  drawn_in made is true = is
  drawn_in made is false = tt

  mover_in : (actor : Actor) (made : Choice) → InOrder made → InOrder (if_mover actor made)
  mover_in (Session n) made is = tt
  mover_in (Mover n) made is = is

  allowed_in : (made : Choice) → InOrder made → InOrder (allowed whole.next by made)
  allowed_in (Compress source) is = drawn_in (Compress source) is (leb whole.next (2 ^ 62))
  allowed_in Flush is = is
  allowed_in (Rebuild source) is = drawn_in (Rebuild source) is (leb whole.next (2 ^ 62))
  allowed_in (Merge first second) is = drawn_in (Merge first second) is (leb whole.next (2 ^ 62))
  allowed_in Settle is = mover_in by Settle tt
  allowed_in Clear is = mover_in by Clear tt
  allowed_in Idle is = tt

  pub choice_in : InOrder (choice floor group_rows by whole)
  choice_in = allowed_in (first_some (choices floor group_rows whole)) (first_in (choices floor group_rows whole) (
    some_compress (lowest (λ (g : book.Group). book.is_closed g.content) (free whole)),
    (
      any_if Flush tt (leb 1 (length (flushable whole))),
      (
        some_rebuild (lowest (is_thin floor) (free_packed whole)),
        (
          first_pair_is (λ (g : book.Group). Unit {0}) floor group_rows (λ o. InOrderIf (option_map merge_of o)) (free_packed whole) packed_up (every_one (λ (g : book.Group). Unit {0}) (λ g. tt) (free_packed whole)) tt (λ a b _ _ lt _. lt),
          (any_if Settle tt (leb 1 (settling_count floor whole)), (any_if Clear tt (leb 1 (tombstone_count whole)), (tt, tt))),
        ),
      ),
    ),
  ))

  low : leb whole.next (2 ^ 62) ≡ true → whole.next ≤ 2 ^ 62
  low is = grind (arith, nat_tests)

  drawn_mover : (actor : Actor) (made : Choice) → IsDrawn whole.next made → IsDrawn whole.next (if_mover actor made)
  drawn_mover (Session n) made is = tt
  drawn_mover (Mover n) made is = is

  allowed_drawn : (made : Choice) → IsDrawn whole.next (allowed whole.next by made)
  allowed_drawn (Compress source) = step (leb whole.next (2 ^ 62)) refl
    where
      step : (t : Bool) → leb whole.next (2 ^ 62) ≡ t → IsDrawn whole.next (cond t (Compress source) Idle)
      step true is = low is
      step false is = tt
  allowed_drawn Flush = tt
  allowed_drawn (Rebuild source) = step (leb whole.next (2 ^ 62)) refl
    where
      step : (t : Bool) → leb whole.next (2 ^ 62) ≡ t → IsDrawn whole.next (cond t (Rebuild source) Idle)
      step true is = low is
      step false is = tt
  allowed_drawn (Merge first second) = step (leb whole.next (2 ^ 62)) refl
    where
      step : (t : Bool) → leb whole.next (2 ^ 62) ≡ t → IsDrawn whole.next (cond t (Merge first second) Idle)
      step true is = low is
      step false is = tt
  allowed_drawn Settle = drawn_mover by Settle tt
  allowed_drawn Clear = drawn_mover by Clear tt
  allowed_drawn Idle = tt

  pub choice_drawn : IsDrawn whole.next (choice floor group_rows by whole)
  choice_drawn = allowed_drawn (first_some (choices floor group_rows whole))

-- ---- a flush

module _ (whole : Book) (up : AreById whole.groups) where
  abbrev ends_in : book.Group → Bool
  ends_in group = list_any (λ (entry : Ending). list_any (ends whole.buffer entry) (frozen_in group.content)) whole.buffer

  abbrev is_free : book.Group → Bool
  is_free group = not (is_claimed whole.claims group)

  abbrev is_packed : book.Group → Bool
  is_packed group = is_compressed group.content

  pub rises_flush : Rises (flush_sources whole)
  rises_flush = rises_ids (filter ends_in (free_packed whole)) (by_id_filter ends_in (free_packed whole) (by_id_filter is_packed (free whole) (by_id_filter is_free whole.groups up)))

  one_test : filter ends_in (free_packed whole) ≡ filter (λ group. (is_free group && is_packed group) && ends_in group) whole.groups
  one_test = ap (filter ends_in) (filter_both is_free is_packed whole.groups) ∙ filter_both (λ group. is_free group && is_packed group) ends_in whole.groups

  sources_are : filter (is_id_of (flush_sources whole)) whole.groups ≡ filter ends_in (free_packed whole)
  sources_are = ap (λ (gs : List book.Group). filter (is_id_of (map id_of gs)) whole.groups) one_test ∙ by_ids (λ group. (is_free group && is_packed group) && ends_in group) whole.groups up ∙ sym one_test

  -- an entry of the buffer ends no version of a group that it does not make a source
  none_missed : (entry : Ending) → Contains whole.buffer entry → (gs : List book.Group) → list_any (ends whole.buffer entry) (frozen (filter ends_in gs)) ≡ list_any (ends whole.buffer entry) (frozen gs)
  none_missed entry there [] = refl
  none_missed entry there (g ∷ gs) = step (ends_in g) refl (none_missed entry there gs)
    where
      joined : (hs : List book.Group) → list_any (ends whole.buffer entry) (frozen_in g.content ++ frozen hs) ≡ (list_any (ends whole.buffer entry) (frozen_in g.content) || list_any (ends whole.buffer entry) (frozen hs))
      joined hs = list_any-append (ends whole.buffer entry) (frozen_in g.content) (frozen hs)

      step : (t : Bool) → ends_in g ≡ t → list_any (ends whole.buffer entry) (frozen (filter ends_in gs)) ≡ list_any (ends whole.buffer entry) (frozen gs)
          → list_any (ends whole.buffer entry) (frozen (cond t (g ∷ filter ends_in gs) (filter ends_in gs))) ≡ list_any (ends whole.buffer entry) (frozen_in g.content ++ frozen gs)
      step true is rest = joined (filter ends_in gs) ∙ ap (λ u. list_any (ends whole.buffer entry) (frozen_in g.content) || u) rest ∙ sym (joined gs)
      step false is rest =
          let none = All-contains (λ (e : Ending). list_any (ends whole.buffer e) (frozen_in g.content) ≡ false) whole.buffer entry
          (All-from_recursion (λ (e : Ending). list_any (ends whole.buffer e) (frozen_in g.content) ≡ false) whole.buffer (none_pass (λ (e : Ending). list_any (ends whole.buffer e) (frozen_in g.content)) whole.buffer is)) there in
          rest ∙ ap (λ u. u || list_any (ends whole.buffer entry) (frozen gs)) (sym none) ∙ sym (joined gs)

  -- a flush lends the entries that end versions of its sources
  pub flush_lends : entries_for whole.buffer (turns.versions_of (flush_sources whole) whole.groups) ≡ flushable whole
  flush_lends =
      ap (λ (gs : List book.Group). entries_for whole.buffer (frozen gs)) sources_are
      ∙ same_filter (λ entry. list_any (ends whole.buffer entry) (frozen (filter ends_in (free_packed whole)))) (λ entry. list_any (ends whole.buffer entry) (frozen (free_packed whole))) whole.buffer
      (weaker (Contains whole.buffer) (λ entry. list_any (ends whole.buffer entry) (frozen (filter ends_in (free_packed whole))) ≡ list_any (ends whole.buffer entry) (frozen (free_packed whole))) whole.buffer
      (λ entry there. none_missed entry there (free_packed whole)) (recursion_from_All (Contains whole.buffer) whole.buffer (All-contains_itself whole.buffer)))

-- ---- what is lent

-- the versions of a group that takes no more rows
frozen_rows : (content : GroupContent) → is_opened (content_of content) ≡ false → frozen_in (content_of content) ≡ versions_of (rowed_in_content content)
frozen_rows (Opened store) is = cc
frozen_rows (Closed store) is = refl
frozen_rows (Compressed packed marks) is = refl
frozen_rows Invisible is = refl
frozen_rows (Tombstone total deleted) is = refl

abbrev Entry : Type 0
Entry = ℕ × List Version

abbrev entry_versions : ℕ × List Rowed → Entry
entry_versions entry = (entry.0, versions_of entry.1)

module _ (sources : List ℕ) where
  abbrev IsShut : Group → Type 0
  IsShut group = is_id_of sources (group_of group) ≡ true → is_opened (content_of group.content) ≡ false

  pub picked_groups : (gs : List Group) → map (λ (s : Seen). s.group) (filter (picks sources) (map seen gs)) ≡ filter (is_id_of sources) (map group_of gs)
  picked_groups [] = refl
  picked_groups (g ∷ gs) = step (is_id_of sources (group_of g)) (picked_groups gs)
    where
      step : (t : Bool) → map (λ (s : Seen). s.group) (filter (picks sources) (map seen gs)) ≡ filter (is_id_of sources) (map group_of gs)
          → map (λ (s : Seen). s.group) (cond t (seen g ∷ filter (picks sources) (map seen gs)) (filter (picks sources) (map seen gs))) ≡ cond t (group_of g ∷ filter (is_id_of sources) (map group_of gs)) (filter (is_id_of sources) (map group_of gs))
      step true rest = ap (λ l. group_of g ∷ l) rest
      step false rest = rest

  picked_entries : (gs : List Group) → AllByRecursion IsShut gs → map entry_versions (map entry_of (filter (picks sources) (map seen gs))) ≡ map group_versions (filter (is_id_of sources) (map group_of gs))
  picked_entries [] all = refl
  picked_entries (g ∷ gs) all = step (is_id_of sources (group_of g)) all.0 (picked_entries gs all.1)
    where
      here : is_opened (content_of g.content) ≡ false → entry_versions (entry_of (seen g)) ≡ group_versions (group_of g)
      here shut = ap (λ (vs : List Version). let entry : Entry = (g.id, vs) in entry) (sym (frozen_rows g.content shut))

      step : (t : Bool) → (t ≡ true → is_opened (content_of g.content) ≡ false) → map entry_versions (map entry_of (filter (picks sources) (map seen gs))) ≡ map group_versions (filter (is_id_of sources) (map group_of gs))
          → map entry_versions (map entry_of (cond t (seen g ∷ filter (picks sources) (map seen gs)) (filter (picks sources) (map seen gs)))) ≡ map group_versions (cond t (group_of g ∷ filter (is_id_of sources) (map group_of gs)) (filter (is_id_of sources) (map group_of gs)))
      step true shut rest = ap (λ (e : Entry). e ∷ map entry_versions (map entry_of (filter (picks sources) (map seen gs)))) (here (shut refl)) ∙ ap (λ l. group_versions (group_of g) ∷ l) rest
      step false shut rest = rest

-- versions, group by group
flat_parts : (parts : List (ℕ × GroupPart)) → versions_of (flat_map (λ (part : ℕ × GroupPart). rowed_in part.1) parts) ≡ flat_map (λ (entry : Entry). entry.1) (map part_versions parts)
flat_parts [] = refl
flat_parts (part ∷ parts) = map-append (λ (rowed : Rowed). rowed.version) (rowed_in part.1) (flat_map (λ (other : ℕ × GroupPart). rowed_in other.1) parts) ∙ ap (λ l. versions_of (rowed_in part.1) ++ l) (flat_parts parts)

flat_groups : (gs : List book.Group) → frozen gs ≡ flat_map (λ (entry : Entry). entry.1) (map group_versions gs)
flat_groups [] = refl
flat_groups (g ∷ gs) = ap (λ l. frozen_in g.content ++ l) (flat_groups gs)

module _ (list : GroupList) (sources : List ℕ) (least last : ℕ) (claim : Claim) (view : IsViewOf (picks sources) list least last claim.view) (shut : AllByRecursion (IsShut sources) list.groups.items)
    (named : map (λ (group : book.Group). group.id) (filter (is_id_of sources) (book_of list).groups) ≡ sources) where
  abbrev items : List Group
  items = list.groups.items

  abbrev parts : List (ℕ × GroupPart)
  parts = claim.view.groups

  lent_ids : map (λ (part : ℕ × GroupPart). part.0) parts ≡ sources
  lent_ids =
      map-through (λ (entry : ℕ × List Rowed). entry.0) part_entry parts ∙ ap (map (λ (entry : ℕ × List Rowed). entry.0)) view.groups
      ∙ sym (map-through (λ (entry : ℕ × List Rowed). entry.0) entry_of (filter (picks sources) (map seen items)))
      ∙ map-through (λ (group : book.Group). group.id) (λ (s : Seen). s.group) (filter (picks sources) (map seen items))
      ∙ ap (map (λ (group : book.Group). group.id)) (picked_groups sources items) ∙ named

  lent_entries_are : map part_versions parts ≡ map group_versions (filter (is_id_of sources) (book_of list).groups)
  lent_entries_are = map-through entry_versions part_entry parts ∙ ap (map entry_versions) view.groups ∙ picked_entries sources items shut

  pub lent_are : versions_of (rowed_of claim.view) ≡ turns.versions_of sources (book_of list).groups
  lent_are = flat_parts parts ∙ ap (flat_map (λ (entry : Entry). entry.1)) lent_entries_are ∙ sym (flat_groups (filter (is_id_of sources) (book_of list).groups))

  -- the claim's groups stand as they are lent
  pub stands_lent : (actor : Actor) → StandsAsLent (book_of list) (actor, claim)
  stands_lent actor = lent_entries_are ∙ ap (λ (ids : List ℕ). map group_versions (filter (is_id_of ids) (book_of list).groups)) (sym lent_ids)

  pub ids_are : map (λ (part : ℕ × GroupPart). part.0) claim.view.groups ≡ sources
  ids_are = lent_ids

-- ---- a list keeps a claim, and the place of a new group

pub keeps_made : (schema : Schema) (turn : Turn) (sources : List ℕ) (old new : GroupList) (shared : List Group) (kept lent : Claim) → Lends schema turn (Some old.next) sources [] old kept → IsShareOf kept lent
    → new.groups.items ≡ shared ++ record { id = old.next; content = Invisible } ∷ [] → map seen shared ≡ map seen old.groups.items → All (λ (group : Group). IsFittingContent group.content) shared
    → new.opened ≡ old.opened → new.buffer.entries ≡ old.buffer.entries → new.next ≡ old.next + 1 → new.claims.items ≡ (turn.actor, kept) ∷ old.claims.items → Keeps schema turn (Some old.next) sources [] old new lent
keeps_made schema turn sources old new shared kept lent lends share groups alike fits opened buffer next claims = record {
  kept = kept;
  lends = lends;
  share = share;
  claims = claims;
  seen_groups = ap (map seen) groups ∙ map-append seen shared (place_of (Some old.next)) ∙ ap (λ l. l ++ map seen (place_of (Some old.next))) alike ∙ sym (map-append seen old.groups.items (place_of (Some old.next)));
  fitting = subst (All (λ (group : Group). IsFittingContent group.content)) (sym groups) (All-push (λ (group : Group). IsFittingContent group.content) shared (record { id = old.next; content = Invisible }) fits tt);
  opened = opened;
  buffer = buffer;
  next = next;
}
