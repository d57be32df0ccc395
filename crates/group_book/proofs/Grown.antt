-- A book with one group more.
use Rattle.std.proofs.Common.{◌≡◌, ℕ, ◌<◌, ◌+◌, Bool, true, false, ◌||◌, cond, List, [], ◌∷◌, ◌++◌, filter, Option, Some, None, is_some, refl, sym, ap, ◌∙◌, arith}
use Rattle.std.specs.Prelude.{◌==◌}
use Rattle.std.specs.List.{All, AllByRecursion, list_any}
use Rattle.std.proofs.lemmas.Bool.Decides.{nat_tests}
use Rattle.std.proofs.lemmas.List.Elements.{recursion_from_All, All-from_recursion, All-append}
use Rattle.cs_model.specs.Changes.{Change}
use Rattle.group_book.specs.Book.{Content, Group, Claim, Book, frozen, frozen_in, how_many, is_invisible}
use Rattle.group_book.specs.Commits.{with_group}
use Rattle.group_book.specs.Turns.{is_id_of, is_fresh}
use Rattle.group_book.specs.Invariant.{AreById, may_be_source, makes_group, IsThere, IsLent, IsClaim}
use Rattle.group_book.proofs.Lists.{All-in, all-append, weaker, how_many-append, how_many-none, list_any-found, list_any-none}

any_append : {X : Type 0} (p : X → Bool) (xs ys : List X) → list_any p xs ≡ true → list_any p (xs ++ ys) ≡ true
any_append p [] ys h = cc
any_append p (x ∷ xs) ys h = step (p x) h (any_append p xs ys)
  where
    step : (t : Bool) → (t || list_any p xs) ≡ true → (list_any p xs ≡ true → list_any p (xs ++ ys) ≡ true) → (t || list_any p (xs ++ ys)) ≡ true
    step true h rest = refl
    step false h rest = rest h

pub All-push : {X : Type 0} (P : X → Type 0) (xs : List X) (x : X) → All P xs → P x → All P (xs ++ x ∷ [])
All-push P xs x all last = All-append P xs (x ∷ []) all (All-from_recursion P (x ∷ []) (last, tt))

-- under the next id
abbrev pub new_group : Book → Content → Group
new_group book content = record { id = book.next; content = content }

module _ (book : Book) (content : Content) (low : All (λ (g : Group). g.id < book.next) book.groups) where
  abbrev g0 : Group
  g0 = new_group book content

  abbrev IsLow : Group → Type 0
  IsLow g = g.id < book.next

  abbrev grown : List Group
  grown = book.groups ++ g0 ∷ []

  by_id_more : (gs : List Group) → AreById gs → AllByRecursion IsLow gs → AreById (gs ++ g0 ∷ [])
  by_id_more [] up all = (tt, tt)
  by_id_more (g ∷ gs) up all = (all-append (λ (h : Group). g.id < h.id) gs (g0 ∷ []) up.0 (all.0, tt), by_id_more gs up.1 all.1)

  pub by_id_grown : AreById book.groups → AreById (book.groups ++ g0 ∷ [])
  by_id_grown up = by_id_more book.groups up (recursion_from_All IsLow book.groups low)

  pub below_grown : All (λ (g : Group). g.id < book.next + 1) (book.groups ++ g0 ∷ [])
  below_grown = All-push (λ (g : Group). g.id < book.next + 1) book.groups g0 (All-in IsLow (λ (g : Group). g.id < book.next + 1) book.groups (λ g _ lt. omega (arith, lt)) low) (omega arith)

  -- an id that is there is lower than the next
  pub there_low : (id : ℕ) → IsThere book.groups id → id < book.next
  there_low id is =
      let found = list_any-found (λ (g : Group). g.id == id) IsLow book.groups (recursion_from_All IsLow book.groups low) is in
      let same : found.0.id ≡ id = let e = found.1 in grind (arith, nat_tests) in
      let lt = found.2 in
      omega (arith, same, lt)

  pub not_next : (id : ℕ) → id < book.next → (id == book.next) ≡ false
  not_next id lt = grind (arith, nat_tests)

  pub not_source : (ids : List ℕ) → All (IsThere book.groups) ids → is_id_of ids g0 ≡ false
  not_source ids there = list_any-none (λ id. id == book.next) ids (weaker (IsThere book.groups) (λ id. (id == book.next) ≡ false) ids (λ id is. not_next id (there_low id is)) (recursion_from_All (IsThere book.groups) ids there))

  pub none_fresh : (fresh : ℕ) → (book.next == fresh) ≡ true → how_many (is_fresh (Some fresh)) book.groups ≡ 0
  none_fresh fresh is = how_many-none (is_fresh (Some fresh)) book.groups (weaker IsLow (λ g. is_fresh (Some fresh) g ≡ false) book.groups (λ g lt. let same : book.next ≡ fresh = grind (arith, nat_tests) in away g.id (g.id == fresh) refl (omega (arith, same, lt))) (recursion_from_All IsLow book.groups low))
    where
      away : (id : ℕ) (t : Bool) → (id == fresh) ≡ t → id < fresh → t ≡ false
      away id true is lt = let same : id ≡ fresh = grind (arith, nat_tests) in absurd (omega (arith, same, lt))
      away id false is lt = refl

  pub old_fresh : (fresh : Option ℕ) (makes : Bool) → is_some fresh ≡ makes → how_many (is_fresh fresh) book.groups ≡ cond makes 1 0 → is_fresh fresh g0 ≡ false
  old_fresh None makes is once = refl
  old_fresh (Some id) makes is once = step (book.next == id) refl
    where
      step : (t : Bool) → (book.next == id) ≡ t → t ≡ false
      step true same = let zero_is = none_fresh id same in let one_is : how_many (is_fresh (Some id)) book.groups ≡ 1 = once ∙ ap (λ t. cond t 1 0) (sym is) in absurd (omega (arith, zero_is, one_is))
      step false same = refl

  versions_grown : (p : Group → Bool) → p g0 ≡ false → (gs : List Group) → frozen (filter p (gs ++ g0 ∷ [])) ≡ frozen (filter p gs)
  versions_grown p none [] = rw none refl
  versions_grown p none (g ∷ gs) = step (p g) (versions_grown p none gs)
    where
      step : (t : Bool) → frozen (filter p (gs ++ g0 ∷ [])) ≡ frozen (filter p gs) → frozen (cond t (g ∷ filter p (gs ++ g0 ∷ [])) (filter p (gs ++ g0 ∷ []))) ≡ frozen (cond t (g ∷ filter p gs) (filter p gs))
      step true rest = ap (λ l. frozen_in g.content ++ l) rest
      step false rest = rest

  pub lent_grown : (cs : List Change) (claim : Claim) → is_id_of claim.sources g0 ≡ false → IsLent book cs claim → IsLent (with_group content book) cs claim
  lent_grown cs claim none l = record { versions = versions_grown (is_id_of claim.sources) none book.groups ∙ l.versions; gone = l.gone; spent = l.spent; held = l.held; owned = l.owned }

  pub there_grown : (ids : List ℕ) → All (IsThere book.groups) ids → All (IsThere (book.groups ++ g0 ∷ [])) ids
  there_grown ids there = All-in (IsThere book.groups) (IsThere grown) ids (λ id _ is. any_append (λ (g : Group). g.id == id) book.groups (g0 ∷ []) is) there

  pub claim_grown : (group_rows : ℕ) (cs : List Change) (floor : ℕ) (claim : Claim) → IsClaim group_rows book cs floor claim → IsClaim group_rows (with_group content book) cs floor claim
  claim_grown group_rows cs floor claim c =
      let none = old_fresh claim.fresh (makes_group claim.choice) c.makes c.once in
      let away = not_source claim.sources c.there in
      record {
        below = c.below;
        kind = c.kind;
        there = there_grown claim.sources c.there;
        sources = All-push (λ (g : Group). is_id_of claim.sources g ≡ true → may_be_source claim.choice g.content ≡ true) book.groups g0 c.sources (λ is. cc (is, away));
        makes = c.makes;
        fresh = All-push (λ (g : Group). is_fresh claim.fresh g ≡ true → is_invisible g.content ≡ true) book.groups g0 c.fresh (λ is. cc (is, none));
        once = how_many-append (is_fresh claim.fresh) book.groups (g0 ∷ []) ∙ rw none (let once = c.once in omega (arith, once));
        lent = lent_grown cs claim away c.lent;
        room = c.room;
      }
