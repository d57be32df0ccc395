-- A claim keeps the book one of the changes.
use Rattle.std.proofs.Common.{◌≡◌, ℕ, ◌<◌, ◌≤◌, ◌+◌, Bool, true, false, ◌||◌, cond, List, [], ◌∷◌, ◌++◌, filter, Option, Some, None, refl, sym, ap, subst, ◌∙◌, arith}
use Rattle.std.specs.Prelude.{◌==◌, ◌≢◌}
use Rattle.std.specs.List.{All, AllByRecursion, list_any}
use Rattle.std.proofs.lemmas.Bool.Decides.{nat_tests}
use Rattle.std.proofs.lemmas.Option.{none-some}
use Rattle.std.proofs.lemmas.List.Elements.{recursion_from_All, All-from_recursion}
use Rattle.cs_model.specs.declared.work.Actor.{Actor}
use Rattle.cs_model.specs.declared.work.Actor.TheVariants.{Session, Mover}
use Rattle.cs_model.specs.Changes.{Change}
use Rattle.group_book.specs.Book.{Group, Choice, Claim, Book, how_many, is_opened, is_invisible}
use Rattle.group_book.specs.Book.Choice.{Flush}
use Rattle.group_book.specs.Book.Content.{Invisible}
use Rattle.group_book.specs.Turns.{is_id_of, is_fresh, is_claimed, same_actor, is_by, first_claim, claim_of, after_claim, after_flush_claim}
use Rattle.group_book.specs.Invariant.{IsSized, AreGroups, may_be_source, makes_group, IsThere, IsLent, IsClaim, fresh_in, joined, IsBookOf, MayTake, MayClaim}
use Rattle.group_book.proofs.Lists.{All-in, all-append, weaker, how_many-append, how_many-none, list_any-found, list_any-some, none_pass, AreApart, apart_head, apart_tail, apart_cons}
use Rattle.group_book.proofs.Changes.{AreAscending}
use Rattle.group_book.proofs.Events.{claim_stock}
use Rattle.group_book.proofs.Lent.{lent_is}
use Rattle.group_book.specs.Commits.{with_group}
use Rattle.group_book.proofs.Sized.{claim_beside}
use Rattle.group_book.proofs.Grown.{All-push, new_group, by_id_grown, below_grown, not_next, not_source, none_fresh, old_fresh, lent_grown, there_grown, claim_grown}

or_true : (t : Bool) → (t || true) ≡ true
or_true true = refl
or_true false = refl

distinct_join : (xs ys : List ℕ) → AreApart xs → AreApart ys → AllByRecursion (λ x. AllByRecursion (λ y. x ≢ y) ys) xs → AreApart (xs ++ ys)
distinct_join [] ys d_x d_y apart = d_y
distinct_join (x ∷ xs) ys d_x d_y apart =
    apart_cons x (xs ++ ys) (All-from_recursion (λ y. x ≢ y) (xs ++ ys) (all-append (λ y. x ≢ y) xs ys (recursion_from_All (λ y. x ≢ y) xs (apart_head x xs d_x)) apart.0)) (distinct_join xs ys (apart_tail x xs d_x) d_y apart.1)

apart_ids : (n : ℕ) (ids : List ℕ) → list_any (λ id. id == n) ids ≡ false → AllByRecursion (λ y. n ≢ y) ids
apart_ids n ids none = weaker (λ id. (id == n) ≡ false) (λ y. n ≢ y) ids (λ y is same. let e : (y == n) ≡ true = grind (arith, nat_tests) in cc (e, is)) (none_pass (λ id. id == n) ids none)

both_false : (a b : Bool) → (a || b) ≡ false → (a ≡ false) × (b ≡ false)
both_false true b h = cc
both_false false b h = (refl, h)

unclaimed_apart : (g : Group) (claims : List Claim) → is_claimed claims g ≡ false → AllByRecursion (λ y. g.id ≢ y) (joined (λ (c : Claim). c.sources) claims)
unclaimed_apart g [] none = tt
unclaimed_apart g (c ∷ cs) none =
    let parts = both_false (is_id_of c.sources g) (is_claimed cs g) none in
    all-append (λ y. g.id ≢ y) c.sources (joined (λ (d : Claim). d.sources) cs) (apart_ids g.id c.sources parts.0) (unclaimed_apart g cs parts.1)

-- ---- the claims of actors

same_is : (a b : Actor) → same_actor a b ≡ true → a ≡ b
same_is (Session m) (Session n) is = let e : m ≡ n = grind (arith, nat_tests) in ap Session e
same_is (Session m) (Mover n) is = cc
same_is (Mover m) (Session n) is = cc
same_is (Mover m) (Mover n) is = let e : m ≡ n = grind (arith, nat_tests) in ap Mover e

none_by : (actor : Actor) (claims : List Claim) → first_claim (filter (is_by actor) claims) ≡ None → how_many (is_by actor) claims ≡ 0
none_by actor [] none = refl
none_by actor (c ∷ cs) none = step (is_by actor c) none (none_by actor cs)
  where
    step : (t : Bool) → first_claim (cond t (c ∷ filter (is_by actor) cs) (filter (is_by actor) cs)) ≡ None → (first_claim (filter (is_by actor) cs) ≡ None → how_many (is_by actor) cs ≡ 0) → cond t 1 0 + how_many (is_by actor) cs ≡ 0
    step true none rest = absurd (none-some c (sym none))
    step false none rest = let zero = rest none in omega (arith, zero)

-- an actor that holds no claim may have one
actors_more : (claim : Claim) (claims : List Claim) → first_claim (filter (is_by claim.actor) claims) ≡ None → ((actor : Actor) → how_many (is_by actor) claims ≤ 1) → (actor : Actor) → how_many (is_by actor) (claim ∷ claims) ≤ 1
actors_more claim claims none one actor = step (same_actor claim.actor actor) refl
  where
    step : (t : Bool) → same_actor claim.actor actor ≡ t → cond t 1 0 + how_many (is_by actor) claims ≤ 1
    step true is = let zero = ap (λ (a : Actor). how_many (is_by a) claims) (sym (same_is claim.actor actor is)) ∙ none_by claim.actor claims none in omega (arith, zero)
    step false is = let le = one actor in omega (arith, le)

-- ---- the groups that may be taken

module _ (book : Book) (actor : Actor) (choice : Choice) (sources : List ℕ) (takes : MayTake book actor choice sources) where
  abbrev Sourced : Group → Type 0
  Sourced g = is_id_of sources g ≡ true → (may_be_source choice g.content ≡ true) × (is_claimed book.claims g ≡ false)

  taken_sources : All (λ (g : Group). is_id_of sources g ≡ true → may_be_source choice g.content ≡ true) book.groups
  taken_sources = All-in Sourced (λ (g : Group). is_id_of sources g ≡ true → may_be_source choice g.content ≡ true) book.groups (λ g _ both is. (both is).0) takes.free

  sources_apart : AllByRecursion (λ x. AllByRecursion (λ y. x ≢ y) (joined (λ (c : Claim). c.sources) book.claims)) sources
  sources_apart = recursion_from_All (λ x. AllByRecursion (λ y. x ≢ y) (joined (λ (c : Claim). c.sources) book.claims)) sources (All-in (IsThere book.groups) (λ x. AllByRecursion (λ y. x ≢ y) (joined (λ (c : Claim). c.sources) book.claims)) sources (λ id in_list is.
      let found = list_any-found (λ (g : Group). g.id == id) Sourced book.groups (recursion_from_All Sourced book.groups takes.free) is in
      let same : found.0.id ≡ id = let e = found.1 in grind (arith, nat_tests) in
      let named : is_id_of sources found.0 ≡ true = list_any-some (λ s. s == found.0.id) sources in_list.0 id in_list.1 (rw in_list.2 (let e : (id == found.0.id) ≡ true = grind (arith, nat_tests) in e)) in
      subst (λ n. AllByRecursion (λ y. n ≢ y) (joined (λ (c : Claim). c.sources) book.claims)) same (unclaimed_apart found.0 book.claims (found.2 named).1)) takes.there)

  distinct_more : AreApart (joined (λ (c : Claim). c.sources) book.claims) → AreApart (sources ++ joined (λ (c : Claim). c.sources) book.claims)
  distinct_more distinct = distinct_join sources (joined (λ (c : Claim). c.sources) book.claims) takes.distinct distinct sources_apart

-- ---- a claim that makes a group

module _ (group_rows : ℕ) (book : Book) (cs : List Change) (floor : ℕ) (up : AreAscending cs) (actor : Actor) (choice : Choice) (sources : List ℕ) (j : IsBookOf group_rows book cs floor) (may : MayClaim group_rows book floor actor choice sources) where
  abbrev low : All (λ (g : Group). g.id < book.next) book.groups
  low = j.groups.below

  abbrev g0 : Group
  g0 = new_group book Invisible

  abbrev grown : List Group
  grown = book.groups ++ g0 ∷ []

  one_more : (P : Group → Type 0) → All P book.groups → P g0 → All P grown
  one_more P all last = All-push P book.groups g0 all last

  groups_grown : AreGroups group_rows (after_claim actor choice sources floor book)
  groups_grown = record {
    by_id = by_id_grown book Invisible low j.groups.by_id;
    below = below_grown book Invisible low;
    one = let le = j.groups.one in omega (arith, le, how_many-append (λ (g : Group). is_opened g.content) book.groups (g0 ∷ []));
    sized = one_more (λ (g : Group). IsSized group_rows g.content) j.groups.sized tt;
  }

  abbrev new_claim : Claim
  new_claim = claim_of actor choice sources (Some book.next) floor book

  claim_after : (claim : Claim) → IsClaim group_rows book cs floor claim → IsClaim group_rows (after_claim actor choice sources floor book) cs floor claim
  claim_after claim c = claim_beside group_rows (with_group Invisible book) (new_claim ∷ book.claims) cs floor claim (claim_grown book Invisible low group_rows cs floor claim c)

  next_itself : (book.next == book.next) ≡ true
  next_itself = grind (arith, nat_tests)

  none_next : how_many (is_fresh (Some book.next)) book.groups ≡ 0
  none_next = none_fresh book Invisible low book.next next_itself

  new_lent : IsLent (with_group Invisible book) cs new_claim
  new_lent = lent_grown book Invisible low cs new_claim (not_source book Invisible low sources may.takes.there) (lent_is book cs floor up j.stock sources actor choice (Some book.next))

  new_is : IsClaim group_rows (after_claim actor choice sources floor book) cs floor new_claim
  new_is = record {
    below = omega arith;
    kind = may.takes.kind;
    there = there_grown book Invisible low sources may.takes.there;
    sources = one_more (λ (g : Group). is_id_of sources g ≡ true → may_be_source choice g.content ≡ true) (taken_sources book actor choice sources may.takes) (λ is. cc (is, not_source book Invisible low sources may.takes.there));
    makes = sym may.makes;
    fresh = one_more (λ (g : Group). is_fresh (Some book.next) g ≡ true → is_invisible g.content ≡ true) (All-in (λ (g : Group). g.id < book.next) (λ (g : Group). is_fresh (Some book.next) g ≡ true → is_invisible g.content ≡ true) book.groups (λ g _ lt is. cc (is, not_next book Invisible low g.id lt)) low) (λ is. refl);
    once = how_many-append (is_fresh (Some book.next)) book.groups (g0 ∷ []) ∙ rw (next_itself, may.makes) (omega (arith, none_next));
    lent = record { versions = new_lent.versions; gone = new_lent.gone; spent = new_lent.spent; held = new_lent.held; owned = new_lent.owned };
    room = λ _. may.room;
  }

  fresh_apart : (claims : List Claim) → AllByRecursion (IsClaim group_rows book cs floor) claims → AllByRecursion (λ y. book.next ≢ y) (joined (λ (c : Claim). fresh_in c.fresh) claims)
  fresh_apart [] all = tt
  fresh_apart (c ∷ rest) all = all-append (λ y. book.next ≢ y) (fresh_in c.fresh) (joined (λ (d : Claim). fresh_in d.fresh) rest) (here c.fresh (old_fresh book Invisible low c.fresh (makes_group c.choice) all.0.makes all.0.once)) (fresh_apart rest all.1)
    where
      here : (fresh : Option ℕ) → is_fresh fresh g0 ≡ false → AllByRecursion (λ y. book.next ≢ y) (fresh_in fresh)
      here None is = tt
      here (Some id) is = ((λ same. let e : (book.next == id) ≡ true = grind (arith, nat_tests) in cc (e, is)), tt)

  pub claim_is : IsBookOf group_rows (after_claim actor choice sources floor book) cs floor
  claim_is = record {
    stock = claim_stock actor choice sources book cs floor floor j.stock;
    groups = groups_grown;
    claims = record {
      actors = actors_more new_claim book.claims may.takes.none j.claims.actors;
      sources = distinct_more book actor choice sources may.takes j.claims.sources;
      fresh = apart_cons book.next (joined (λ (c : Claim). fresh_in c.fresh) book.claims) (All-from_recursion (λ y. book.next ≢ y) (joined (λ (c : Claim). fresh_in c.fresh) book.claims) (fresh_apart book.claims (recursion_from_All (IsClaim group_rows book cs floor) book.claims j.claims.each))) j.claims.fresh;
      made = one_more (λ (g : Group). is_invisible g.content ≡ true → list_any (λ (c : Claim). is_fresh c.fresh g) (new_claim ∷ book.claims) ≡ true)
          (All-in (λ (g : Group). is_invisible g.content ≡ true → list_any (λ (c : Claim). is_fresh c.fresh g) book.claims ≡ true) (λ (g : Group). is_invisible g.content ≡ true → list_any (λ (c : Claim). is_fresh c.fresh g) (new_claim ∷ book.claims) ≡ true) book.groups
          (λ g _ made is. rw (made is) (or_true (g.id == book.next))) j.claims.made) (λ is. rw next_itself refl);
      each = All-from_recursion (IsClaim group_rows (after_claim actor choice sources floor book) cs floor) (new_claim ∷ book.claims) (new_is, weaker (IsClaim group_rows book cs floor) (IsClaim group_rows (after_claim actor choice sources floor book) cs floor) book.claims claim_after (recursion_from_All (IsClaim group_rows book cs floor) book.claims j.claims.each));
    };
  }

-- ---- a claim of a flush

module _ (group_rows : ℕ) (book : Book) (cs : List Change) (floor : ℕ) (up : AreAscending cs) (actor : Actor) (sources : List ℕ) (j : IsBookOf group_rows book cs floor) (takes : MayTake book actor Flush sources) where
  abbrev flush_claim : Claim
  flush_claim = claim_of actor Flush sources None floor book

  none_made : (gs : List Group) → AllByRecursion (λ g. is_fresh None g ≡ false) gs
  none_made [] = tt
  none_made (g ∷ gs) = (refl, none_made gs)

  flush_claim_is : IsClaim group_rows book cs floor flush_claim
  flush_claim_is = record {
    below = omega arith;
    kind = takes.kind;
    there = takes.there;
    sources = taken_sources book actor Flush sources takes;
    makes = refl;
    fresh = All-from_recursion (λ (g : Group). is_fresh None g ≡ true → is_invisible g.content ≡ true) book.groups (weaker (λ g. is_fresh None g ≡ false) (λ (g : Group). is_fresh None g ≡ true → is_invisible g.content ≡ true) book.groups (λ g not_it is. cc (is, not_it)) (none_made book.groups));
    once = how_many-none (is_fresh None) book.groups (none_made book.groups);
    lent = lent_is book cs floor up j.stock sources actor Flush None;
    room = λ is. cc;
  }

  pub flush_claimed : IsBookOf group_rows (after_flush_claim actor sources floor book) cs floor
  flush_claimed = record {
    stock = j.stock;
    groups = record { by_id = j.groups.by_id; below = j.groups.below; one = j.groups.one; sized = j.groups.sized };
    claims = record {
      actors = actors_more flush_claim book.claims takes.none j.claims.actors;
      sources = distinct_more book actor Flush sources takes j.claims.sources;
      fresh = j.claims.fresh;
      made = j.claims.made;
      each = All-from_recursion (IsClaim group_rows (after_flush_claim actor sources floor book) cs floor) (flush_claim ∷ book.claims)
          (weaker (IsClaim group_rows book cs floor) (IsClaim group_rows (after_flush_claim actor sources floor book) cs floor) (flush_claim ∷ book.claims) (claim_beside group_rows book (flush_claim ∷ book.claims) cs floor)
          (flush_claim_is, recursion_from_All (IsClaim group_rows book cs floor) book.claims j.claims.each));
    };
  }
