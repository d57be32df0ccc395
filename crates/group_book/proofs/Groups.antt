-- The versions of groups, when some groups change.
use Rattle.std.proofs.Common.{◌≡◌, ℕ, ◌+◌, Bool, true, false, cond, List, [], ◌∷◌, ◌++◌, map, filter, not, Option, refl, sym, ap, subst, ◌∙◌, arith}
use Rattle.std.specs.List.{AllByRecursion}
use Rattle.std.specs.List.Sorted.{IsPermutation}
use Rattle.std.proofs.lemmas.List.{append_assoc, map-append}
use Rattle.std.proofs.lemmas.List.Sorted.{IsPermutation-refl, IsPermutation-trans, IsPermutation-append_left, IsPermutation-append_right, IsPermutation-append_comm}
use Rattle.group_book.specs.Book.{Version, Content, Group, how_many, opened, opened_in, frozen, frozen_in, total, deleted, is_opened, is_invisible, is_tombstone}
use Rattle.group_book.specs.Book.Content.{Opened, Closed, Compressed, Invisible, Tombstone}
use Rattle.group_book.specs.Turns.{is_id_of, is_fresh, replaced_group}

-- ---- order

-- x goes after y
pub behind : {X : Type 0} (xs ys zs : List X) → IsPermutation (xs ++ (ys ++ zs)) (ys ++ (xs ++ zs))
behind xs ys zs = subst (λ l. IsPermutation l (ys ++ (xs ++ zs))) (append_assoc xs ys zs) (subst (IsPermutation ((xs ++ ys) ++ zs)) (append_assoc ys xs zs) (IsPermutation-append_left zs (xs ++ ys) (ys ++ xs) (IsPermutation-append_comm xs ys)))

pub frozen-append : (gs hs : List Group) → frozen (gs ++ hs) ≡ frozen gs ++ frozen hs
frozen-append [] hs = refl
frozen-append (g ∷ gs) hs = ap (λ l. frozen_in g.content ++ l) (frozen-append gs hs) ∙ sym (append_assoc (frozen_in g.content) (frozen gs) (frozen hs))

pub opened-append : (gs hs : List Group) → opened (gs ++ hs) ≡ opened gs ++ opened hs
opened-append [] hs = refl
opened-append (g ∷ gs) hs = ap (λ l. opened_in g.content ++ l) (opened-append gs hs) ∙ sym (append_assoc (opened_in g.content) (opened gs) (opened hs))

-- what is moved goes after the first, which is kept
pub behind_kept : {X : Type 0} (kept xs moved news : List X) → IsPermutation (xs ++ moved) news → IsPermutation ((kept ++ xs) ++ moved) (kept ++ news)
behind_kept kept xs moved news p = subst (λ l. IsPermutation l (kept ++ news)) (sym (append_assoc kept xs moved)) (IsPermutation-append_right kept (xs ++ moved) news p)

-- the versions of the groups that pass, and of the others
pub frozen-split : (p : Group → Bool) (gs : List Group) → IsPermutation (frozen gs) (frozen (filter p gs) ++ frozen (filter (λ g. not (p g)) gs))
frozen-split p [] = IsPermutation-refl []
frozen-split p (g ∷ gs) = step (p g) (frozen-split p gs)
  where
    rest : List Version
    rest = frozen (filter (λ h. not (p h)) gs)

    step : (t : Bool) → IsPermutation (frozen gs) (frozen (filter p gs) ++ frozen (filter (λ h. not (p h)) gs))
        → IsPermutation (frozen_in g.content ++ frozen gs) (frozen (cond t (g ∷ filter p gs) (filter p gs)) ++ frozen (cond (not t) (g ∷ filter (λ h. not (p h)) gs) (filter (λ h. not (p h)) gs)))
    step true all = subst (IsPermutation (frozen_in g.content ++ frozen gs)) (sym (append_assoc (frozen_in g.content) (frozen (filter p gs)) (frozen (filter (λ h. not (p h)) gs))))
        (IsPermutation-append_right (frozen_in g.content) (frozen gs) (frozen (filter p gs) ++ frozen (filter (λ h. not (p h)) gs)) all)
    step false all = IsPermutation-trans (frozen_in g.content ++ frozen gs) (frozen_in g.content ++ (frozen (filter p gs) ++ frozen (filter (λ h. not (p h)) gs))) (frozen (filter p gs) ++ (frozen_in g.content ++ frozen (filter (λ h. not (p h)) gs)))
        (IsPermutation-append_right (frozen_in g.content) (frozen gs) (frozen (filter p gs) ++ frozen (filter (λ h. not (p h)) gs)) all)
        (behind (frozen_in g.content) (frozen (filter p gs)) (frozen (filter (λ h. not (p h)) gs)))

-- ---- kinds

no_opened : (content : Content) → is_opened content ≡ false → opened_in content ≡ []
no_opened (Opened versions) is = cc
no_opened (Closed versions) is = refl
no_opened (Compressed versions) is = refl
no_opened Invisible is = refl
no_opened (Tombstone versions ends) is = refl

pub invisible_none : (content : Content) → is_invisible content ≡ true → (opened_in content ≡ []) × (frozen_in content ≡ [])
invisible_none (Opened versions) is = cc
invisible_none (Closed versions) is = cc
invisible_none (Compressed versions) is = cc
invisible_none Invisible is = (refl, refl)
invisible_none (Tombstone versions ends) is = cc

pub tombstone_none : (content : Content) → is_tombstone content ≡ true → (opened_in content ≡ []) × (frozen_in content ≡ [])
tombstone_none (Opened versions) is = cc
tombstone_none (Closed versions) is = cc
tombstone_none (Compressed versions) is = cc
tombstone_none Invisible is = cc
tombstone_none (Tombstone versions ends) is = (refl, refl)

abbrev pub IsBare : Group → Type 0
IsBare g = (opened_in g.content ≡ []) × (frozen_in g.content ≡ [])

-- groups without versions may go
pub bare_gone : (p : Group → Bool) (gs : List Group) → AllByRecursion (λ g. p g ≡ true → IsBare g) gs → (opened (filter (λ g. not (p g)) gs) ≡ opened gs) × (frozen (filter (λ g. not (p g)) gs) ≡ frozen gs)
bare_gone p [] all = (refl, refl)
bare_gone p (g ∷ gs) all = step (p g) all.0 (bare_gone p gs all.1)
  where
    step : (t : Bool) → (t ≡ true → IsBare g) → (opened (filter (λ h. not (p h)) gs) ≡ opened gs) × (frozen (filter (λ h. not (p h)) gs) ≡ frozen gs)
        → (opened (cond (not t) (g ∷ filter (λ h. not (p h)) gs) (filter (λ h. not (p h)) gs)) ≡ opened_in g.content ++ opened gs) × (frozen (cond (not t) (g ∷ filter (λ h. not (p h)) gs) (filter (λ h. not (p h)) gs)) ≡ frozen_in g.content ++ frozen gs)
    step true bare rest = (rest.0 ∙ ap (λ l. l ++ opened gs) (sym (bare refl).0), rest.1 ∙ ap (λ l. l ++ frozen gs) (sym (bare refl).1))
    step false bare rest = (ap (λ l. opened_in g.content ++ l) rest.0, ap (λ l. frozen_in g.content ++ l) rest.1)

-- ---- sources that become tombstones, and the new group

-- what an install needs of a group: a source is no store that takes rows, and the new group's place has no version
pub record IsReady (sources : List ℕ) (fresh : Option ℕ) (g : Group) : Type 0 where
  pub source : is_id_of sources g ≡ true → opened_in g.content ≡ []
  pub bare : is_fresh fresh g ≡ true → IsBare g
  pub apart : is_fresh fresh g ≡ true → is_id_of sources g ≡ false

module _ (sources : List ℕ) (fresh : Option ℕ) (versions : List Version) where
  abbrev Replaced : Group → Group
  Replaced g = replaced_group sources fresh versions g

  pub replaced_opened : (gs : List Group) → AllByRecursion (IsReady sources fresh) gs → opened (map Replaced gs) ≡ opened gs
  replaced_opened [] all = refl
  replaced_opened (g ∷ gs) all = step (is_id_of sources g) (is_fresh fresh g) refl refl (replaced_opened gs all.1)
    where
      step : (s f : Bool) → is_id_of sources g ≡ s → is_fresh fresh g ≡ f → opened (map Replaced gs) ≡ opened gs
          → opened_in (cond s (Tombstone (total g.content) (deleted g.content)) (cond f (Compressed versions) g.content)) ++ opened (map Replaced gs) ≡ opened_in g.content ++ opened gs
      step true f s_is f_is rest = rest ∙ ap (λ l. l ++ opened gs) (sym (all.0.source s_is))
      step false true s_is f_is rest = rest ∙ ap (λ l. l ++ opened gs) (sym (all.0.bare f_is).0)
      step false false s_is f_is rest = ap (λ l. opened_in g.content ++ l) rest

  abbrev pub others : List Group → List Version
  others gs = frozen (filter (λ g. not (is_id_of sources g)) gs)

  pub replaced_none : (gs : List Group) → AllByRecursion (IsReady sources fresh) gs → how_many (is_fresh fresh) gs ≡ 0 → frozen (map Replaced gs) ≡ others gs
  replaced_none [] all zero = refl
  replaced_none (g ∷ gs) all zero = step (is_id_of sources g) (is_fresh fresh g) zero (replaced_none gs all.1)
    where
      step : (s f : Bool) → cond f 1 0 + how_many (is_fresh fresh) gs ≡ 0 → (how_many (is_fresh fresh) gs ≡ 0 → frozen (map Replaced gs) ≡ others gs)
          → frozen_in (cond s (Tombstone (total g.content) (deleted g.content)) (cond f (Compressed versions) g.content)) ++ frozen (map Replaced gs) ≡ frozen (cond (not s) (g ∷ filter (λ h. not (is_id_of sources h)) gs) (filter (λ h. not (is_id_of sources h)) gs))
      step s true count rest = absurd (omega (arith, count))
      step true false count rest = rest (omega (arith, count))
      step false false count rest = ap (λ l. frozen_in g.content ++ l) (rest (omega (arith, count)))

  pub replaced_one : (gs : List Group) → AllByRecursion (IsReady sources fresh) gs → how_many (is_fresh fresh) gs ≡ 1 → IsPermutation (versions ++ others gs) (frozen (map Replaced gs))
  replaced_one [] all one = absurd (omega (arith, one))
  replaced_one (g ∷ gs) all one = step (is_id_of sources g) (is_fresh fresh g) refl refl one (replaced_one gs all.1) (replaced_none gs all.1)
    where
      Goal : (s f : Bool) → Type 0
      Goal s f = IsPermutation (versions ++ frozen (cond (not s) (g ∷ filter (λ h. not (is_id_of sources h)) gs) (filter (λ h. not (is_id_of sources h)) gs)))
          (frozen_in (cond s (Tombstone (total g.content) (deleted g.content)) (cond f (Compressed versions) g.content)) ++ frozen (map Replaced gs))

      step : (s f : Bool) → is_id_of sources g ≡ s → is_fresh fresh g ≡ f → cond f 1 0 + how_many (is_fresh fresh) gs ≡ 1
          → (how_many (is_fresh fresh) gs ≡ 1 → IsPermutation (versions ++ others gs) (frozen (map Replaced gs))) → (how_many (is_fresh fresh) gs ≡ 0 → frozen (map Replaced gs) ≡ others gs)
          → IsPermutation (versions ++ frozen (cond (not s) (g ∷ filter (λ h. not (is_id_of sources h)) gs) (filter (λ h. not (is_id_of sources h)) gs)))
          (frozen_in (cond s (Tombstone (total g.content) (deleted g.content)) (cond f (Compressed versions) g.content)) ++ frozen (map Replaced gs))
      step true true s_is f_is count rest none = absurd (cc (s_is, all.0.apart f_is))
      step true false s_is f_is count rest none = rest (omega (arith, count))
      step false true s_is f_is count rest none =
          subst (IsPermutation (versions ++ (frozen_in g.content ++ others gs))) (ap (λ l. versions ++ (l ++ others gs)) (all.0.bare f_is).1 ∙ ap (λ l. versions ++ l) (sym (none (omega (arith, count))))) (IsPermutation-refl (versions ++ (frozen_in g.content ++ others gs)))
      step false false s_is f_is count rest none =
          IsPermutation-trans (versions ++ (frozen_in g.content ++ others gs)) (frozen_in g.content ++ (versions ++ others gs)) (frozen_in g.content ++ frozen (map Replaced gs))
          (behind versions (frozen_in g.content) (others gs))
          (IsPermutation-append_right (frozen_in g.content) (versions ++ others gs) (frozen (map Replaced gs)) (rest (omega (arith, count))))

-- ---- versions that change in place

-- of the groups that pass
pub mapped_split : (f : Version → Version) (change : Group → Group) (p : Group → Bool) (gs : List Group)
    → AllByRecursion (λ g. (p g ≡ true → frozen_in (change g).content ≡ map f (frozen_in g.content)) × (p g ≡ false → frozen_in (change g).content ≡ frozen_in g.content)) gs
    → IsPermutation (map f (frozen (filter p gs)) ++ frozen (filter (λ g. not (p g)) gs)) (frozen (map change gs))
mapped_split f change p [] all = IsPermutation-refl []
mapped_split f change p (g ∷ gs) all = step (p g) all.0 (mapped_split f change p gs all.1)
  where
    step : (t : Bool) → (t ≡ true → frozen_in (change g).content ≡ map f (frozen_in g.content)) × (t ≡ false → frozen_in (change g).content ≡ frozen_in g.content)
        → IsPermutation (map f (frozen (filter p gs)) ++ frozen (filter (λ h. not (p h)) gs)) (frozen (map change gs))
        → IsPermutation (map f (frozen (cond t (g ∷ filter p gs) (filter p gs))) ++ frozen (cond (not t) (g ∷ filter (λ h. not (p h)) gs) (filter (λ h. not (p h)) gs))) (frozen_in (change g).content ++ frozen (map change gs))
    step true now rest =
        subst (IsPermutation (map f (frozen_in g.content ++ frozen (filter p gs)) ++ frozen (filter (λ h. not (p h)) gs))) (ap (λ l. l ++ frozen (map change gs)) (sym (now.0 refl)))
        (subst (λ l. IsPermutation l (map f (frozen_in g.content) ++ frozen (map change gs))) (sym (append_assoc (map f (frozen_in g.content)) (map f (frozen (filter p gs))) (frozen (filter (λ h. not (p h)) gs))) ∙ ap (λ l. l ++ frozen (filter (λ h. not (p h)) gs)) (sym (map-append f (frozen_in g.content) (frozen (filter p gs)))))
        (IsPermutation-append_right (map f (frozen_in g.content)) (map f (frozen (filter p gs)) ++ frozen (filter (λ h. not (p h)) gs)) (frozen (map change gs)) rest))
    step false now rest =
        subst (IsPermutation (map f (frozen (filter p gs)) ++ (frozen_in g.content ++ frozen (filter (λ h. not (p h)) gs)))) (ap (λ l. l ++ frozen (map change gs)) (sym (now.1 refl)))
        (IsPermutation-trans (map f (frozen (filter p gs)) ++ (frozen_in g.content ++ frozen (filter (λ h. not (p h)) gs))) (frozen_in g.content ++ (map f (frozen (filter p gs)) ++ frozen (filter (λ h. not (p h)) gs))) (frozen_in g.content ++ frozen (map change gs))
        (behind (map f (frozen (filter p gs))) (frozen_in g.content) (frozen (filter (λ h. not (p h)) gs)))
        (IsPermutation-append_right (frozen_in g.content) (map f (frozen (filter p gs)) ++ frozen (filter (λ h. not (p h)) gs)) (frozen (map change gs)) rest))

pub map_opened : (change : Group → Group) (gs : List Group) → AllByRecursion (λ g. opened_in (change g).content ≡ opened_in g.content) gs → opened (map change gs) ≡ opened gs
map_opened change [] all = refl
map_opened change (g ∷ gs) all = ap (λ l. opened_in (change g).content ++ l) (map_opened change gs all.1) ∙ ap (λ l. l ++ opened gs) all.0
