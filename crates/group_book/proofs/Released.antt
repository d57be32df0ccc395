-- The claims of a book, when one goes.
use Rattle.std.proofs.Common.{◌≡◌, ℕ, ◌≤◌, ◌+◌, Bool, true, false, ◌&&◌, ◌||◌, cond, List, [], ◌∷◌, ◌++◌, filter, not, Option, Some, None, refl, subst, arith}
use Rattle.std.specs.Prelude.{◌==◌, ◌≢◌}
use Rattle.std.specs.List.{All, AllByRecursion, list_any, Contains}
use Rattle.std.proofs.lemmas.Bool.Decides.{nat_tests}
use Rattle.std.proofs.lemmas.List.Elements.{recursion_from_All, All-from_recursion, All-contains, All-contains_itself}
use Rattle.cs_model.specs.declared.work.Actor.{Actor}
use Rattle.cs_model.specs.declared.work.Actor.TheVariants.{Session, Mover}
use Rattle.cs_model.specs.Changes.{Change}
use Rattle.group_book.specs.Book.{Group, Claim, Book, how_many, is_invisible}
use Rattle.group_book.specs.Turns.{is_id_of, is_fresh, same_actor, is_by, without_claim, without_fresh, after_release}
use Rattle.group_book.specs.Invariant.{fresh_in, joined, may_be_source, IsClaim, IsBookOf}
use Rattle.group_book.proofs.Lists.{All-in, all-filter, all-append, all-left, all-right, counted, AreApart, apart_head, apart_tail, apart_cons}
use Rattle.group_book.proofs.Events.{source_is, release_stock}
use Rattle.group_book.proofs.Sized.{count_filter, groups_filter, IsOther, claim_filter}

-- ---- distinct numbers

all_joined : (P : ℕ → Type 0) (f : Claim → List ℕ) (q : Claim → Bool) (claims : List Claim) → AllByRecursion P (joined f claims) → AllByRecursion P (joined f (filter q claims))
all_joined P f q [] all = tt
all_joined P f q (c ∷ cs) all = step (q c) (all_joined P f q cs (all-right P (f c) (joined f cs) all))
  where
    step : (t : Bool) → AllByRecursion P (joined f (filter q cs)) → AllByRecursion P (joined f (cond t (c ∷ filter q cs) (filter q cs)))
    step true rest = all-append P (f c) (joined f (filter q cs)) (all-left P (f c) (joined f cs) all) rest
    step false rest = rest

pub distinct_right : (xs ys : List ℕ) → AreApart (xs ++ ys) → AreApart ys
distinct_right [] ys d = d
distinct_right (x ∷ xs) ys d = distinct_right xs ys (apart_tail x (xs ++ ys) d)

-- the second list may lose some
distinct_less : (xs ys zs : List ℕ) → ((P : ℕ → Type 0) → AllByRecursion P ys → AllByRecursion P zs) → AreApart zs → AreApart (xs ++ ys) → AreApart (xs ++ zs)
distinct_less [] ys zs less d_z d = d_z
distinct_less (x ∷ xs) ys zs less d_z d =
    let all = recursion_from_All (λ y. x ≢ y) (xs ++ ys) (apart_head x (xs ++ ys) d) in
    apart_cons x (xs ++ zs) (All-from_recursion (λ y. x ≢ y) (xs ++ zs) (all-append (λ y. x ≢ y) xs zs (all-left (λ y. x ≢ y) xs ys all) (less (λ y. x ≢ y) (all-right (λ y. x ≢ y) xs ys all)))) (distinct_less xs ys zs less d_z (apart_tail x (xs ++ ys) d))

pub joined_filter : (f : Claim → List ℕ) (q : Claim → Bool) (claims : List Claim) → AreApart (joined f claims) → AreApart (joined f (filter q claims))
joined_filter f q [] d = d
joined_filter f q (c ∷ cs) d = step (q c) (joined_filter f q cs (distinct_right (f c) (joined f cs) d))
  where
    step : (t : Bool) → AreApart (joined f (filter q cs)) → AreApart (joined f (cond t (c ∷ filter q cs) (filter q cs)))
    step true rest = distinct_less (f c) (joined f cs) (joined f (filter q cs)) (λ P all. all_joined P f q cs all) rest d
    step false rest = rest

-- ---- at most one claim is by an actor, and at most one makes a group

same_itself : (actor : Actor) → same_actor actor actor ≡ true
same_itself (Session n) = grind (arith, nat_tests)
same_itself (Mover n) = grind (arith, nat_tests)

pub actors_filter : (q : Claim → Bool) (claims : List Claim) → ((actor : Actor) → how_many (is_by actor) claims ≤ 1) → (actor : Actor) → how_many (is_by actor) (filter q claims) ≤ 1
actors_filter q claims one actor =
    let fewer = count_filter (is_by actor) q claims in
    let le = one actor in
    omega (arith, fewer, le)

abbrev pub makes_it : Group → Claim → Bool
makes_it g claim = is_fresh claim.fresh g

none_makes : (g : Group) (cs : List Claim) → AllByRecursion (λ y. g.id ≢ y) (joined (λ (c : Claim). fresh_in c.fresh) cs) → how_many (makes_it g) cs ≡ 0
none_makes g [] all = refl
none_makes g (c ∷ cs) all = step c.fresh (all-left (λ y. g.id ≢ y) (fresh_in c.fresh) (joined (λ (d : Claim). fresh_in d.fresh) cs) all) (none_makes g cs (all-right (λ y. g.id ≢ y) (fresh_in c.fresh) (joined (λ (d : Claim). fresh_in d.fresh) cs) all))
  where
    other : (id : ℕ) (t : Bool) → (g.id == id) ≡ t → (g.id ≢ id) → t ≡ false
    other id true is apart = absurd (apart (grind (arith, nat_tests)))
    other id false is apart = refl

    step : (fresh : Option ℕ) → AllByRecursion (λ y. g.id ≢ y) (fresh_in fresh) → how_many (makes_it g) cs ≡ 0 → cond (is_fresh fresh g) 1 0 + how_many (makes_it g) cs ≡ 0
    step None here rest = omega (arith, rest)
    step (Some id) here rest = rw (other id (g.id == id) refl here.0) (omega (arith, rest))

pub one_makes : (g : Group) (claims : List Claim) → AreApart (joined (λ (c : Claim). fresh_in c.fresh) claims) → how_many (makes_it g) claims ≤ 1
one_makes g [] d = omega arith
one_makes g (c ∷ cs) d = step c.fresh d (one_makes g cs (distinct_right (fresh_in c.fresh) (joined (λ (e : Claim). fresh_in e.fresh) cs) d))
  where
    inner : (id : ℕ) → All (λ y. id ≢ y) (joined (λ (e : Claim). fresh_in e.fresh) cs) → (t : Bool) → (g.id == id) ≡ t → how_many (makes_it g) cs ≤ 1 → cond t 1 0 + how_many (makes_it g) cs ≤ 1
    inner id apart true is rest =
        let same : id ≡ g.id = grind (arith, nat_tests) in
        let none = none_makes g cs (subst (λ n. AllByRecursion (λ y. n ≢ y) (joined (λ (e : Claim). fresh_in e.fresh) cs)) same (recursion_from_All (λ y. id ≢ y) (joined (λ (e : Claim). fresh_in e.fresh) cs) apart)) in
        omega (arith, none)
    inner id apart false is rest = omega (arith, rest)

    step : (fresh : Option ℕ) → AreApart (fresh_in fresh ++ joined (λ (e : Claim). fresh_in e.fresh) cs) → how_many (makes_it g) cs ≤ 1 → cond (is_fresh fresh g) 1 0 + how_many (makes_it g) cs ≤ 1
    step None d rest = omega (arith, rest)
    step (Some id) d rest = inner id (apart_head id (joined (λ (e : Claim). fresh_in e.fresh) cs) d) (g.id == id) refl rest

pub count_parts : {X : Type 0} (p q : X → Bool) (xs : List X) → how_many (λ x. p x && q x) xs + how_many (λ x. not (p x) && q x) xs ≡ how_many q xs
count_parts p q [] = refl
count_parts p q (x ∷ xs) = step (p x) (q x) (count_parts p q xs)
  where
    step : (t u : Bool) → how_many (λ x. p x && q x) xs + how_many (λ x. not (p x) && q x) xs ≡ how_many q xs
        → (cond (t && u) 1 0 + how_many (λ x. p x && q x) xs) + (cond (not t && u) 1 0 + how_many (λ x. not (p x) && q x) xs) ≡ cond u 1 0 + how_many q xs
    step true true rest = omega (arith, rest)
    step true false rest = omega (arith, rest)
    step false true rest = omega (arith, rest)
    step false false rest = omega (arith, rest)

-- two different elements that pass, where at most one does
pub apart_pass : {X : Type 0} (p q : X → Bool) (xs : List X) → how_many q xs ≤ 1 → (x y : X) → Contains xs x → Contains xs y → p x ≡ true → p y ≡ false → q x ≡ true → (t : Bool) → q y ≡ t → t ≡ false
apart_pass p q xs one x y in_x in_y px py qx true qy =
    absurd (omega (arith, one, count_parts p q xs, counted (λ z. p z && q z) xs x in_x (rw (px, qx) refl), counted (λ z. not (p z) && q z) xs y in_y (rw (py, qy) refl)))
apart_pass p q xs one x y in_x in_y px py qx false qy = refl

pub All-filter-in : {X : Type 0} (P : X → Type 0) (p : X → Bool) (xs : List X) → ((x : X) → Contains xs x → p x ≡ true → P x) → All P (filter p xs)
All-filter-in P p xs h = All-from_recursion P (filter p xs) (all-filter (Contains xs) P p xs h (recursion_from_All (Contains xs) xs (All-contains_itself xs)))

pub any_kept : {X : Type 0} (p q : X → Bool) (xs : List X) → AllByRecursion (λ x. p x ≡ true → q x ≡ false) xs → list_any q xs ≡ true → list_any q (filter (λ x. not (p x)) xs) ≡ true
any_kept p q [] all h = h
any_kept p q (x ∷ xs) all h = step (p x) (q x) refl all.0 h (any_kept p q xs all.1)
  where
    step : (t u : Bool) → q x ≡ u → (t ≡ true → u ≡ false) → (u || list_any q xs) ≡ true → (list_any q xs ≡ true → list_any q (filter (λ y. not (p y)) xs) ≡ true) → list_any q (cond (not t) (x ∷ filter (λ y. not (p y)) xs) (filter (λ y. not (p y)) xs)) ≡ true
    step true true is gone h rest = cc (gone refl)
    step true false is gone h rest = rest h
    step false true is gone h rest = rw is refl
    step false false is gone h rest = rw is (rest h)

pub untrue : (t : Bool) → not t ≡ true → t ≡ false
untrue true h = cc
untrue false h = refl

-- ---- a release

module _ (group_rows : ℕ) (book : Book) (cs : List Change) (floor : ℕ) (claim : Claim) (j : IsBookOf group_rows book cs floor) (in_list : Contains book.claims claim) where
  c : IsClaim group_rows book cs floor claim
  c = All-contains (IsClaim group_rows book cs floor) book.claims claim j.claims.each in_list

  pub by_itself : is_by claim.actor claim ≡ true
  by_itself = same_itself claim.actor

  others_step : (other : Claim) → Contains book.claims other → is_by claim.actor other ≡ false → IsClaim group_rows book cs floor other → (g : Group) → Contains book.groups g → IsOther (is_fresh claim.fresh) other.sources other.fresh g
  others_step other in_other by o g in_groups fresh =
      let invisible = All-contains (λ (h : Group). is_fresh claim.fresh h ≡ true → is_invisible h.content ≡ true) book.groups g c.fresh in_groups fresh in (
        source (is_id_of other.sources g) refl invisible,
        apart_pass (is_by claim.actor) (makes_it g) book.claims (one_makes g book.claims j.claims.fresh) claim other in_list in_other by_itself by fresh (is_fresh other.fresh g) refl,
      )
    where
      source : (t : Bool) → is_id_of other.sources g ≡ t → is_invisible g.content ≡ true → t ≡ false
      source true is invisible = cc ((source_is other.choice g.content (All-contains (λ (h : Group). is_id_of other.sources h ≡ true → may_be_source other.choice h.content ≡ true) book.groups g o.sources in_groups is)).1, invisible)
      source false is invisible = refl

  each_kept : All (IsClaim group_rows (after_release claim book) cs floor) (without_claim claim.actor book.claims)
  each_kept = All-filter-in (IsClaim group_rows (after_release claim book) cs floor) (λ other. not (is_by claim.actor other)) book.claims (λ other in_other kept.
      let o = All-contains (IsClaim group_rows book cs floor) book.claims other j.claims.each in_other in
      claim_filter group_rows (is_fresh claim.fresh) book (without_claim claim.actor book.claims) cs floor other
      (recursion_from_All (IsOther (is_fresh claim.fresh) other.sources other.fresh) book.groups (All-in (Contains book.groups) (IsOther (is_fresh claim.fresh) other.sources other.fresh) book.groups (λ g in_groups _. others_step other in_other (untrue (is_by claim.actor other) kept) o g in_groups) (All-contains_itself book.groups))) o)

  -- the actor's one claim is this, so a group that it does not make is made by another's
  pub not_made : (g : Group) → is_fresh claim.fresh g ≡ false → (other : Claim) → Contains book.claims other → is_by claim.actor other ≡ true → (t : Bool) → is_fresh other.fresh g ≡ t → t ≡ false
  not_made g apart other in_other by true fresh =
      absurd (cc (apart_pass (makes_it g) (is_by claim.actor) book.claims (j.claims.actors claim.actor) other claim in_other in_list fresh apart by (is_by claim.actor claim) refl, by_itself))
  not_made g apart other in_other by false fresh = refl

  made_kept : All (λ (g : Group). is_invisible g.content ≡ true → list_any (makes_it g) (without_claim claim.actor book.claims) ≡ true) (without_fresh claim.fresh book.groups)
  made_kept = All-filter-in (λ (g : Group). is_invisible g.content ≡ true → list_any (makes_it g) (without_claim claim.actor book.claims) ≡ true) (λ g. not (is_fresh claim.fresh g)) book.groups (λ g in_groups kept invisible.
      any_kept (is_by claim.actor) (makes_it g) book.claims
      (recursion_from_All (λ other. is_by claim.actor other ≡ true → makes_it g other ≡ false) book.claims (All-in (Contains book.claims) (λ other. is_by claim.actor other ≡ true → makes_it g other ≡ false) book.claims (λ other in_other _ by. not_made g (untrue (is_fresh claim.fresh g) kept) other in_other by (is_fresh other.fresh g) refl) (All-contains_itself book.claims)))
      (All-contains (λ (h : Group). is_invisible h.content ≡ true → list_any (makes_it h) book.claims ≡ true) book.groups g j.claims.made in_groups invisible))

  pub release_is : IsBookOf group_rows (after_release claim book) cs floor
  release_is = record {
    stock = release_stock group_rows book cs floor claim j.stock c;
    groups = let g = groups_filter group_rows (λ h. not (is_fresh claim.fresh h)) book j.groups in record { by_id = g.by_id; below = g.below; one = g.one; sized = g.sized };
    claims = record {
      actors = actors_filter (λ other. not (is_by claim.actor other)) book.claims j.claims.actors;
      sources = joined_filter (λ (d : Claim). d.sources) (λ other. not (is_by claim.actor other)) book.claims j.claims.sources;
      fresh = joined_filter (λ (d : Claim). fresh_in d.fresh) (λ other. not (is_by claim.actor other)) book.claims j.claims.fresh;
      made = made_kept;
      each = each_kept;
    };
  }
