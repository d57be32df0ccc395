-- What the choice of a turn gives may be claimed.
use Rattle.std.proofs.Common.{◌≡◌, ℕ, ◌<◌, ◌≤◌, ◌+◌, ◌^◌, Bool, true, false, ◌||◌, cond, leb, List, [], ◌∷◌, map, filter, length, not, Option, Some, None, refl, sym, ap, subst, ◌∙◌, arith}
use Rattle.std.specs.Prelude.{◌==◌, ◌≢◌}
use Rattle.std.specs.List.{AllByRecursion, list_any, Contains}
use Rattle.std.specs.Option.{option_map}
use Rattle.std.proofs.lemmas.Bool.Decides.{nat_tests}
use Rattle.std.proofs.lemmas.List.Elements.{recursion_from_All, All-from_recursion, All-contains, All-contains_itself}
use Rattle.std.proofs.lemmas.List.Folds.{list_any-append}
use Rattle.cs_model.specs.declared.work.Actor.{Actor}
use Rattle.cs_model.specs.declared.work.Actor.TheVariants.{Session, Mover}
use Rattle.group_book.specs.Book.{Version, Ending, Content, Group, Choice, Book, frozen, frozen_in, how_many, has_ended, is_buffered, is_closed, is_compressed}
use Rattle.group_book.specs.Book.Content.{Opened, Closed, Compressed, Invisible, Tombstone}
use Rattle.group_book.specs.Book.Choice.{Compress, Flush, Rebuild, Merge, Settle, Clear, Idle}
use Rattle.group_book.specs.Turns.{is_id_of, is_claimed, is_gone, raised, repacked, ends, claim_by}
use Rattle.group_book.specs.Choices.{free, free_packed, first_of, lowest, remaining, is_thin, fit_together, or_else, first_pair, flushable, flush_sources, settling_count, tombstone_count, some_if, merge_of, choices, first_some, if_mover, allowed, choice}
use Rattle.group_book.specs.Invariant.{AreById, IsSized, AreGroups, AreSourcesOf, may_be_source, IsThere, MayTake, MayDo}
use Rattle.group_book.proofs.Lists.{All-in, all-both, all-filter, how_many-append, list_any-found, list_any-some, weaker, AreApart, apart_none, apart_cons}
use Rattle.group_book.proofs.Sized.{by_id_filter}

-- ---- lists

any_at : {X : Type 0} (p : X → Bool) (xs : List X) (x : X) → Contains xs x → p x ≡ true → list_any p xs ≡ true
any_at p xs x in_list is = list_any-some p xs in_list.0 x in_list.1 (rw in_list.2 is)

filtered_any : {X : Type 0} (p : X → Bool) (xs : List X) → 1 ≤ length (filter p xs) → list_any p xs ≡ true
filtered_any p [] some = absurd (omega (arith, some))
filtered_any p (x ∷ xs) some = step (p x) some (filtered_any p xs)
  where
    step : (t : Bool) → 1 ≤ length (cond t (x ∷ filter p xs) (filter p xs)) → (1 ≤ length (filter p xs) → list_any p xs ≡ true) → (t || list_any p xs) ≡ true
    step true some rest = refl
    step false some rest = rest some

count_length : {X : Type 0} (p : X → Bool) (xs : List X) → how_many p xs ≤ length xs
count_length p [] = omega arith
count_length p (x ∷ xs) = step (p x) (count_length p xs)
  where
    step : (t : Bool) → how_many p xs ≤ length xs → cond t 1 0 + how_many p xs ≤ length (x ∷ xs)
    step true rest = omega (arith, rest)
    step false rest = omega (arith, rest)

-- ---- groups by id

-- two groups of one id are one
same_ids : (gs : List Group) → AreById gs → AllByRecursion (λ (a : Group). AllByRecursion (λ (b : Group). a.id ≡ b.id → a ≡ b) gs) gs
same_ids [] up = tt
same_ids (g ∷ gs) up = (
  ((λ _. refl), weaker (λ (b : Group). g.id < b.id) (λ (b : Group). g.id ≡ b.id → g ≡ b) gs (λ b lt same. absurd (omega (arith, lt, same))) up.0),
  all-both (λ (a : Group). g.id < a.id) (λ (a : Group). AllByRecursion (λ (b : Group). a.id ≡ b.id → a ≡ b) gs) (λ (a : Group). AllByRecursion (λ (b : Group). a.id ≡ b.id → a ≡ b) (g ∷ gs)) gs (λ a lt rest. ((λ same. absurd (omega (arith, lt, same))), rest)) up.0 (same_ids gs up.1),
)

one_group : (gs : List Group) → AreById gs → (a b : Group) → Contains gs a → Contains gs b → a.id ≡ b.id → a ≡ b
one_group gs up a b in_a in_b = All-contains (λ (h : Group). a.id ≡ h.id → a ≡ h) gs b
    (All-from_recursion (λ (h : Group). a.id ≡ h.id → a ≡ h) gs (All-contains (λ (g : Group). AllByRecursion (λ (h : Group). g.id ≡ h.id → g ≡ h) gs) gs a (All-from_recursion (λ (g : Group). AllByRecursion (λ (h : Group). g.id ≡ h.id → g ≡ h) gs) gs (same_ids gs up)) in_a)) in_b

apart_from : (n : ℕ) (gs : List Group) → AllByRecursion (λ (h : Group). n < h.id) gs → AllByRecursion (λ y. n ≢ y) (map (λ (h : Group). h.id) gs)
apart_from n [] all = tt
apart_from n (g ∷ gs) all = ((λ same. let lt = all.0 in absurd (omega (arith, lt, same))), apart_from n gs all.1)

distinct_ids : (gs : List Group) → AreById gs → AreApart (map (λ (g : Group). g.id) gs)
distinct_ids [] up = apart_none
distinct_ids (g ∷ gs) up = apart_cons g.id (map (λ (h : Group). h.id) gs) (All-from_recursion (λ y. g.id ≢ y) (map (λ (h : Group). h.id) gs) (apart_from g.id gs up.0)) (distinct_ids gs up.1)

-- ---- the first group that passes

lowest_is : (P : Group → Type 0) (test : Group → Bool) (Q : Option ℕ → Type 0) (gs : List Group) → AllByRecursion P gs → Q None → ((g : Group) → P g → test g ≡ true → Q (Some g.id)) → Q (lowest test gs)
lowest_is P test Q [] all none some = none
lowest_is P test Q (g ∷ gs) all none some = step (test g) refl (lowest_is P test Q gs all.1 none some)
  where
    step : (t : Bool) → test g ≡ t → Q (lowest test gs) → Q (option_map (λ (h : Group). h.id) (first_of (cond t (g ∷ filter test gs) (filter test gs))))
    step true is rest = some g all.0 is
    step false is rest = rest

pub first_pair_is : (P : Group → Type 0) (floor group_rows : ℕ) (Q : Option (ℕ × ℕ) → Type 0) (gs : List Group) → AreById gs → AllByRecursion P gs → Q None
    → ((a b : Group) → P a → P b → a.id < b.id → fit_together floor group_rows a b ≡ true → Q (Some (a.id, b.id))) → Q (first_pair floor group_rows gs)
first_pair_is P floor group_rows Q [] up all none some = none
first_pair_is P floor group_rows Q (g ∷ gs) up all none some =
    pair_of (all-both (λ (b : Group). g.id < b.id) P (λ (b : Group). (g.id < b.id) × P b) gs (λ b lt p. (lt, p)) up.0 all.1) (first_pair_is P floor group_rows Q gs up.1 all.1 none some)
  where
    pair_of : AllByRecursion (λ (b : Group). (g.id < b.id) × P b) gs → Q (first_pair floor group_rows gs) → Q (or_else (option_map (λ second. (g.id, second)) (lowest (fit_together floor group_rows g) gs)) (first_pair floor group_rows gs))
    pair_of later rest = lowest_is (λ (b : Group). (g.id < b.id) × P b) (fit_together floor group_rows g) (λ o. Q (or_else (option_map (λ second. (g.id, second)) o) (first_pair floor group_rows gs))) gs later rest (λ b p is. some g b all.0 p.1 p.0 is)

-- ---- how many versions are kept

-- what has ended by its recorded end is not kept
kept_count : (f : ℕ) (entries : List Ending) (vs : List Version) → length (repacked f entries vs) ≤ how_many (λ (v : Version). not (has_ended f v.end)) vs
kept_count f entries [] = omega arith
kept_count f entries (v ∷ vs) = step (has_ended f v.end) (is_buffered entries v.key v.begin f) (kept_count f entries vs)
  where
    step : (t u : Bool) → length (repacked f entries vs) ≤ how_many (λ (w : Version). not (has_ended f w.end)) vs
        → length (map (raised f) (cond (not (t || u)) (v ∷ filter (λ w. not (is_gone f entries w)) vs) (filter (λ w. not (is_gone f entries w)) vs))) ≤ cond (not t) 1 0 + how_many (λ (w : Version). not (has_ended f w.end)) vs
    step true u rest = omega (arith, rest)
    step false true rest = omega (arith, rest)
    step false false rest = omega (arith, rest)

none_source : (ids : List ℕ) (gs : List Group) → AllByRecursion (λ g. is_id_of ids g ≡ false) gs → frozen (filter (is_id_of ids) gs) ≡ []
none_source ids [] all = refl
none_source ids (g ∷ gs) all = rw all.0 (none_source ids gs all.1)

module _ (p : Version → Bool) where
  one_source : (id n : ℕ) (gs : List Group) → AreById gs → AllByRecursion (λ (g : Group). is_id_of (id ∷ []) g ≡ true → how_many p (frozen_in g.content) ≤ n) gs → how_many p (frozen (filter (is_id_of (id ∷ [])) gs)) ≤ n
  one_source id n [] up all = omega arith
  one_source id n (g ∷ gs) up all = step (id == g.id) refl all.0 (one_source id n gs up.1 all.1)
    where
      later : (id == g.id) ≡ true → (h : Group) → g.id < h.id → (t : Bool) → (id == h.id) ≡ t → (t || false) ≡ false
      later is h lt true same = let e : id ≡ g.id = grind (arith, nat_tests) in let e2 : id ≡ h.id = grind (arith, nat_tests) in absurd (omega (arith, e, e2, lt))
      later is h lt false same = refl

      step : (t : Bool) → (id == g.id) ≡ t → ((t || false) ≡ true → how_many p (frozen_in g.content) ≤ n) → how_many p (frozen (filter (is_id_of (id ∷ [])) gs)) ≤ n
          → how_many p (frozen (cond (t || false) (g ∷ filter (is_id_of (id ∷ [])) gs) (filter (is_id_of (id ∷ [])) gs))) ≤ n
      step true is here rest =
          let le = here refl in
          let none = ap (how_many p) (none_source (id ∷ []) gs (weaker (λ (h : Group). g.id < h.id) (λ h. is_id_of (id ∷ []) h ≡ false) gs (λ h lt. later is h lt (id == h.id) refl) up.0)) in
          omega (arith, le, none, how_many-append p (frozen_in g.content) (frozen (filter (is_id_of (id ∷ [])) gs)))
      step false is here rest = rest

  two_sources : (a b : ℕ) (gs : List Group) → how_many p (frozen (filter (is_id_of (a ∷ b ∷ [])) gs)) ≤ how_many p (frozen (filter (is_id_of (a ∷ [])) gs)) + how_many p (frozen (filter (is_id_of (b ∷ [])) gs))
  two_sources a b [] = omega arith
  two_sources a b (g ∷ gs) = step (a == g.id) (b == g.id) (two_sources a b gs)
    where
      step : (t u : Bool) → how_many p (frozen (filter (is_id_of (a ∷ b ∷ [])) gs)) ≤ how_many p (frozen (filter (is_id_of (a ∷ [])) gs)) + how_many p (frozen (filter (is_id_of (b ∷ [])) gs))
          → how_many p (frozen (cond (t || (u || false)) (g ∷ filter (is_id_of (a ∷ b ∷ [])) gs) (filter (is_id_of (a ∷ b ∷ [])) gs)))
          ≤ how_many p (frozen (cond (t || false) (g ∷ filter (is_id_of (a ∷ [])) gs) (filter (is_id_of (a ∷ [])) gs))) + how_many p (frozen (cond (u || false) (g ∷ filter (is_id_of (b ∷ [])) gs) (filter (is_id_of (b ∷ [])) gs)))
      step true true rest = omega (arith, rest, how_many-append p (frozen_in g.content) (frozen (filter (is_id_of (a ∷ b ∷ [])) gs)), how_many-append p (frozen_in g.content) (frozen (filter (is_id_of (a ∷ [])) gs)), how_many-append p (frozen_in g.content) (frozen (filter (is_id_of (b ∷ [])) gs)))
      step true false rest = omega (arith, rest, how_many-append p (frozen_in g.content) (frozen (filter (is_id_of (a ∷ b ∷ [])) gs)), how_many-append p (frozen_in g.content) (frozen (filter (is_id_of (a ∷ [])) gs)))
      step false true rest = omega (arith, rest, how_many-append p (frozen_in g.content) (frozen (filter (is_id_of (a ∷ b ∷ [])) gs)), how_many-append p (frozen_in g.content) (frozen (filter (is_id_of (b ∷ [])) gs)))
      step false false rest = rest

  sized_count : (group_rows : ℕ) (content : Content) → IsSized group_rows content → how_many p (frozen_in content) ≤ group_rows
  sized_count group_rows (Opened versions) sized = omega arith
  sized_count group_rows (Closed versions) sized = let le = sized.1 in omega (arith, le, count_length p versions)
  sized_count group_rows (Compressed versions) sized = let le = sized.1 in omega (arith, le, count_length p versions)
  sized_count group_rows Invisible sized = omega arith
  sized_count group_rows (Tombstone versions ends) sized = omega arith

-- ---- the groups that may be taken

module _ (group_rows floor : ℕ) (book : Book) (by : Actor) (groups : AreGroups group_rows book) (none : claim_by by book ≡ None) where
  -- the id is that of a group that no claim has, of the state that the kind asks for
  record IsOwned (choice : Choice) (id : ℕ) : Type 0 where
    group : Group
    in_groups : Contains book.groups group
    named : group.id ≡ id
    source : may_be_source choice group.content ≡ true
    free : is_claimed book.claims group ≡ false

  may_take : (choice : Choice) (sources : List ℕ) → AreSourcesOf choice sources → AreApart sources → AllByRecursion (IsOwned choice) sources → MayTake book by choice sources
  may_take choice sources kind distinct owned = record {
    none = none;
    kind = kind;
    distinct = distinct;
    there = All-from_recursion (IsThere book.groups) sources (weaker (IsOwned choice) (IsThere book.groups) sources (λ id owner. any_at (λ (g : Group). g.id == id) book.groups owner.group owner.in_groups (let e = owner.named in grind (arith, nat_tests))) owned);
    free = All-in (Contains book.groups) (λ (g : Group). is_id_of sources g ≡ true → (may_be_source choice g.content ≡ true) × (is_claimed book.claims g ≡ false)) book.groups (λ g in_groups _ is.
        let found = list_any-found (λ id. id == g.id) (IsOwned choice) sources owned is in
        let same : found.0 ≡ g.id = let e = found.1 in grind (arith, nat_tests) in
        let one = one_group book.groups groups.by_id found.2.group g found.2.in_groups in_groups (found.2.named ∙ same) in
        subst (λ (h : Group). (may_be_source choice h.content ≡ true) × (is_claimed book.claims h ≡ false)) one (found.2.source, found.2.free)) (All-contains_itself book.groups);
  }

  -- what is kept of the versions of one group fits a group
  abbrev stays : Version → Bool
  stays v = not (has_ended floor v.end)

  one_room : (id : ℕ) (entries : List Ending) → length (repacked floor entries (frozen (filter (is_id_of (id ∷ [])) book.groups))) ≤ group_rows
  one_room id entries =
      let le = one_source stays id group_rows book.groups groups.by_id (weaker (λ (g : Group). IsSized group_rows g.content) (λ (g : Group). is_id_of (id ∷ []) g ≡ true → how_many stays (frozen_in g.content) ≤ group_rows) book.groups (λ g sized _. sized_count stays group_rows g.content sized) (recursion_from_All (λ (g : Group). IsSized group_rows g.content) book.groups groups.sized)) in
      omega (arith, le, kept_count floor entries (frozen (filter (is_id_of (id ∷ [])) book.groups)))

  -- the count of one group that is there
  count_of : (a : Group) → Contains book.groups a → how_many stays (frozen (filter (is_id_of (a.id ∷ [])) book.groups)) ≤ remaining floor a
  count_of a in_a = one_source stays a.id (remaining floor a) book.groups groups.by_id (recursion_from_All _ book.groups (All-in (Contains book.groups) (λ (g : Group). is_id_of (a.id ∷ []) g ≡ true → how_many stays (frozen_in g.content) ≤ remaining floor a) book.groups (λ g in_g _ is. here g in_g (a.id == g.id) refl is) (All-contains_itself book.groups)))
    where
      here : (g : Group) → Contains book.groups g → (t : Bool) → (a.id == g.id) ≡ t → (t || false) ≡ true → how_many stays (frozen_in g.content) ≤ remaining floor a
      here g in_g true same is = let e : a.id ≡ g.id = grind (arith, nat_tests) in subst (λ (h : Group). how_many stays (frozen_in h.content) ≤ remaining floor a) (one_group book.groups groups.by_id a g in_a in_g e) (omega arith)
      here g in_g false same is = cc

  two_room : (a b : Group) (entries : List Ending) → Contains book.groups a → Contains book.groups b → remaining floor a + remaining floor b ≤ group_rows
      → length (repacked floor entries (frozen (filter (is_id_of (a.id ∷ b.id ∷ [])) book.groups))) ≤ group_rows
  two_room a b entries in_a in_b fit = omega (arith, fit, kept_count floor entries (frozen (filter (is_id_of (a.id ∷ b.id ∷ [])) book.groups)), two_sources stays a.id b.id book.groups, count_of a in_a, count_of b in_b)

  -- ---- the groups that no claim has

  record IsFree (g : Group) : Type 0 where
    in_groups : Contains book.groups g
    free : is_claimed book.claims g ≡ false

  record IsFreePacked (g : Group) : Type 0 where
    free : IsFree g
    packed : is_compressed g.content ≡ true

  not_true : (t : Bool) → not t ≡ true → t ≡ false
  not_true true is = cc
  not_true false is = refl

  all_free : AllByRecursion IsFree (free book)
  all_free = all-filter (Contains book.groups) IsFree (λ g. not (is_claimed book.claims g)) book.groups (λ g in_groups is. record { in_groups = in_groups; free = not_true (is_claimed book.claims g) is }) (recursion_from_All (Contains book.groups) book.groups (All-contains_itself book.groups))

  all_packed : AllByRecursion IsFreePacked (free_packed book)
  all_packed = all-filter IsFree IsFreePacked (λ (g : Group). is_compressed g.content) (free book) (λ g free is. record { free = free; packed = is }) all_free

  packed_by_id : AreById (free_packed book)
  packed_by_id = by_id_filter (λ (g : Group). is_compressed g.content) (free book) (by_id_filter (λ g. not (is_claimed book.claims g)) book.groups groups.by_id)

  owned_by : (choice : Choice) (g : Group) → IsFree g → may_be_source choice g.content ≡ true → IsOwned choice g.id
  owned_by choice g f source = record { group = g; in_groups = f.in_groups; named = refl; source = source; free = f.free }

  one_distinct : (id : ℕ) → AreApart (id ∷ [])
  one_distinct id = apart_cons id [] (All-from_recursion (λ y. id ≢ y) [] tt) apart_none

  two_distinct : (a b : ℕ) → a < b → AreApart (a ∷ b ∷ [])
  two_distinct a b lt = apart_cons a (b ∷ []) (All-from_recursion (λ y. a ≢ y) (b ∷ []) ((λ same. absurd (omega (arith, lt, same))), tt)) (one_distinct b)

  -- ---- the choices

  abbrev Apt : Choice → Type 0
  Apt made = MayDo group_rows book floor by made

  abbrev AptIf : Option Choice → Type 0
  AptIf None = Unit {0}
  AptIf (Some made) = Apt made

  compress_apt : AptIf (option_map Compress (lowest (λ (g : Group). is_closed g.content) (free book)))
  compress_apt = lowest_is IsFree (λ (g : Group). is_closed g.content) (λ o. AptIf (option_map Compress o)) (free book) all_free tt (λ g f is. record {
    takes = may_take (Compress g.id) (g.id ∷ []) refl (one_distinct g.id) (owned_by (Compress g.id) g f is, tt);
    makes = refl;
    room = one_room g.id _;
  })

  rebuild_apt : AptIf (option_map Rebuild (lowest (is_thin floor) (free_packed book)))
  rebuild_apt = lowest_is IsFreePacked (is_thin floor) (λ o. AptIf (option_map Rebuild o)) (free_packed book) all_packed tt (λ g f is. record {
    takes = may_take (Rebuild g.id) (g.id ∷ []) refl (one_distinct g.id) (owned_by (Rebuild g.id) g f.free f.packed, tt);
    makes = refl;
    room = one_room g.id _;
  })

  merge_apt : AptIf (option_map merge_of (first_pair floor group_rows (free_packed book)))
  merge_apt = first_pair_is IsFreePacked floor group_rows (λ o. AptIf (option_map merge_of o)) (free_packed book) packed_by_id all_packed tt (λ a b f_a f_b lt fit. record {
    takes = may_take (Merge a.id b.id) (a.id ∷ b.id ∷ []) refl (two_distinct a.id b.id lt) (owned_by (Merge a.id b.id) a f_a.free f_a.packed, (owned_by (Merge a.id b.id) b f_b.free f_b.packed, tt));
    makes = refl;
    room = two_room a b _ f_a.free.in_groups f_b.free.in_groups (let le : remaining floor a + remaining floor b ≤ group_rows = grind (arith, nat_tests) in le);
  })

  -- ---- a flush

  abbrev ends_in : Group → Bool
  ends_in g = list_any (λ (entry : Ending). list_any (ends book.buffer entry) (frozen_in g.content)) book.buffer

  source_found : (entry : Ending) → Contains book.buffer entry → (gs : List Group) → list_any (ends book.buffer entry) (frozen gs) ≡ true → 1 ≤ length (map (λ (g : Group). g.id) (filter ends_in gs))
  source_found entry in_buffer [] some = cc
  source_found entry in_buffer (g ∷ gs) some = step (list_any (ends book.buffer entry) (frozen_in g.content)) refl (ends_in g) refl (source_found entry in_buffer gs)
    where
      step : (t : Bool) → list_any (ends book.buffer entry) (frozen_in g.content) ≡ t → (u : Bool) → ends_in g ≡ u → (list_any (ends book.buffer entry) (frozen gs) ≡ true → 1 ≤ length (map (λ (h : Group). h.id) (filter ends_in gs)))
          → 1 ≤ length (map (λ (h : Group). h.id) (cond u (g ∷ filter ends_in gs) (filter ends_in gs)))
      step t t_is true u_is rest = omega arith
      step true t_is false u_is rest = absurd (cc (any_at (λ (e : Ending). list_any (ends book.buffer e) (frozen_in g.content)) book.buffer entry in_buffer t_is, u_is))
      step false t_is false u_is rest = rest (ap (λ t. t || list_any (ends book.buffer entry) (frozen gs)) (sym t_is) ∙ sym (list_any-append (ends book.buffer entry) (frozen_in g.content) (frozen gs)) ∙ some)

  flush_some : 1 ≤ length (flushable book) → 1 ≤ length (flush_sources book)
  flush_some some =
      let found = list_any-found (λ (entry : Ending). list_any (ends book.buffer entry) (frozen (free_packed book))) (Contains book.buffer) book.buffer (recursion_from_All (Contains book.buffer) book.buffer (All-contains_itself book.buffer))
      (filtered_any (λ (entry : Ending). list_any (ends book.buffer entry) (frozen (free_packed book))) book.buffer some) in
      source_found found.0 found.2 (free_packed book) found.1

  flush_owned : (gs : List Group) → AllByRecursion IsFreePacked gs → AllByRecursion (IsOwned Flush) (map (λ (g : Group). g.id) gs)
  flush_owned [] all = tt
  flush_owned (g ∷ gs) all = (owned_by Flush g all.0.free all.0.packed, flush_owned gs all.1)

  flush_apt : AptIf (some_if (leb 1 (length (flushable book))) Flush)
  flush_apt = step (leb 1 (length (flushable book))) refl
    where
      step : (t : Bool) → leb 1 (length (flushable book)) ≡ t → AptIf (some_if t Flush)
      step true is = may_take Flush (flush_sources book) (flush_some (let le : 1 ≤ length (flushable book) = grind (arith, nat_tests) in le))
          (distinct_ids (filter ends_in (free_packed book)) (by_id_filter ends_in (free_packed book) packed_by_id))
          (flush_owned (filter ends_in (free_packed book)) (all-filter IsFreePacked IsFreePacked ends_in (free_packed book) (λ g f _. f) all_packed))
      step false is = tt

  -- ---- the choice

  free_apt : (made : Choice) → Apt made → (t : Bool) → AptIf (some_if t made)
  free_apt made apt true = apt
  free_apt made apt false = tt

  first_apt : (made : List (Option Choice)) → AllByRecursion AptIf made → Apt (first_some made)
  first_apt [] all = tt
  first_apt (None ∷ rest) all = first_apt rest all.1
  first_apt (Some c ∷ rest) all = all.0

  drawn_apt : (made : Choice) → Apt made → (t : Bool) → Apt (cond t made Idle)
  drawn_apt made apt true = apt
  drawn_apt made apt false = tt

  mover_apt : (actor : Actor) (made : Choice) → Apt made → Apt (if_mover actor made)
  mover_apt (Session n) made apt = tt
  mover_apt (Mover n) made apt = apt

  allowed_apt : (made : Choice) → Apt made → Apt (allowed book.next by made)
  allowed_apt (Compress source) apt = drawn_apt (Compress source) apt (leb book.next (2 ^ 62))
  allowed_apt Flush apt = apt
  allowed_apt (Rebuild source) apt = drawn_apt (Rebuild source) apt (leb book.next (2 ^ 62))
  allowed_apt (Merge first second) apt = drawn_apt (Merge first second) apt (leb book.next (2 ^ 62))
  allowed_apt Settle apt = mover_apt by Settle tt
  allowed_apt Clear apt = mover_apt by Clear tt
  allowed_apt Idle apt = tt

  pub choice_apt : MayDo group_rows book floor by (choice floor group_rows by book)
  choice_apt = allowed_apt (first_some (choices floor group_rows book)) (first_apt (choices floor group_rows book)
      (compress_apt, (flush_apt, (rebuild_apt, (merge_apt, (free_apt Settle tt (leb 1 (settling_count floor book)), (free_apt Clear tt (leb 1 (tombstone_count book)), (tt, tt))))))))
