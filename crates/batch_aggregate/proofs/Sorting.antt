-- A stable sort gives the list in order.
use Rattle.std.proofs.Common.{◌≡◌, ℕ, zero, suc, ◌<◌, ◌≤◌, Bool, true, false, cond, not, ◌&&◌, List, [], ◌∷◌, length, get_or, filter, refl, sym, ap, subst, ◌∙◌, inl, inr, true≢false, suc-le-suc, zero-le}
use Rattle.std.specs.Cmp.{IsStrictWeakOrder}
use Rattle.std.specs.List.Sorted.{ties, IsSortedBy, IsStableBy}
use Rattle.std.proofs.lemmas.Bool.{cond-true, cond-false, cases_Bool}
use Rattle.std.proofs.lemmas.List.Sorted.{sorted_far}
use Rattle.cs_model.specs.Order.{put, in_order}

head_same : {X : Type 0} {x y : X} {xs ys : List X} → x ∷ xs ≡ y ∷ ys → x ≡ y
head_same h = cc

tail_same : {X : Type 0} {x y : X} {xs ys : List X} → x ∷ xs ≡ y ∷ ys → xs ≡ ys
tail_same h = cc

no_head : {X : Type 0} {x : X} {xs : List X} → x ∷ xs ≡ [] → ⊥
no_head h = cc

both_not : (a b : Bool) → a ≡ false → b ≡ false → (not a && not b) ≡ true
both_not a b h g = cc

parts_not : (a b : Bool) → (not a && not b) ≡ true → (a ≡ false) × (b ≡ false)
parts_not false false h = (refl, refl)
parts_not false true h = absurd (true≢false (sym h))
parts_not true b h = absurd (true≢false (sym h))

module _ {X : Type 0} (less : X → X → Bool) (o : IsStrictWeakOrder less) where
  never_itself : (x : X) → less x x ≡ false
  never_itself x = elim (cases_Bool (less x x)) [ inl h ↦ o.one_way x x h | inr h ↦ h ]

  tied_itself : (x : X) → ties less x x ≡ true
  tied_itself x = both_not (less x x) (less x x) (never_itself x) (never_itself x)

  kept_by : (p : X → Bool) (y : X) (ys : List X) → p y ≡ true → filter p (y ∷ ys) ≡ y ∷ filter p ys
  kept_by p y ys h = cond-true _ _ _ h

  dropped_by : (p : X → Bool) (y : X) (ys : List X) → p y ≡ false → filter p (y ∷ ys) ≡ filter p ys
  dropped_by p y ys h = cond-false _ _ _ h

  -- none of these is less than x
  abbrev NoneBelow : X → List X → Type 0
  NoneBelow x [] = Unit {0}
  NoneBelow x (y ∷ ys) = (less y x ≡ false) × NoneBelow x ys

  abbrev Rises : List X → Type 0
  Rises [] = Unit {0}
  Rises (x ∷ xs) = NoneBelow x xs × Rises xs

  NoneBelow-at : (x : X) (ys : List X) → ((j : ℕ) → j < length ys → less (get_or ys j x) x ≡ false) → NoneBelow x ys
  NoneBelow-at x [] h = tt
  NoneBelow-at x (y ∷ ys) h = (h zero (suc-le-suc zero-le), NoneBelow-at x ys (λ j lt. h (suc j) (suc-le-suc lt)))

  Rises-from : (ys : List X) → ((i j : ℕ) (d : X) → i ≤ j → j < length ys → less (get_or ys j d) (get_or ys i d) ≡ false) → Rises ys
  Rises-from [] h = tt
  Rises-from (y ∷ ys) h = (
    NoneBelow-at y ys (λ j lt. h zero (suc j) y zero-le (suc-le-suc lt)),
    Rises-from ys (λ i j d le lt. h (suc i) (suc j) d (suc-le-suc le) (suc-le-suc lt)),
  )

  -- what a filter leaves first is not less either
  first_not_below : (p : X → Bool) (x w : X) (ys ws : List X) → NoneBelow x ys → filter p ys ≡ w ∷ ws → less w x ≡ false
  first_not_below p x w [] ws below h = absurd (no_head (sym h))
  first_not_below p x w (y ∷ ys) ws below h = elim (cases_Bool (p y)) [
    | inl holds ↦ subst (λ v. less v x ≡ false) (head_same (sym (kept_by p y ys holds) ∙ h)) below.0
    | inr fails ↦ first_not_below p x w ys ws below.1 (sym (dropped_by p y ys fails) ∙ h)
  ]

  abbrev SameTies : List X → List X → Type 0
  SameTies ys zs = (x : X) → filter (ties less x) ys ≡ filter (ties less x) zs

  not_below_first : (y z : X) (ys zs : List X) → Rises (y ∷ ys) → SameTies (y ∷ ys) (z ∷ zs) → less z y ≡ false
  not_below_first y z ys zs rises same =
      first_not_below (ties less z) y z (y ∷ ys) (filter (ties less z) zs) (never_itself y, rises.0) (same z ∙ kept_by (ties less z) z zs (tied_itself z))

  same_rest : (y : X) (ys zs : List X) → SameTies (y ∷ ys) (y ∷ zs) → SameTies ys zs
  same_rest y ys zs same x = elim (cases_Bool (ties less x y)) [
    | inl holds ↦ tail_same (sym (kept_by (ties less x) y ys holds) ∙ same x ∙ kept_by (ties less x) y zs holds)
    | inr fails ↦ sym (dropped_by (ties less x) y ys fails) ∙ same x ∙ dropped_by (ties less x) y zs fails
  ]

  only_one : (ys zs : List X) → Rises ys → Rises zs → SameTies ys zs → ys ≡ zs
  only_one [] [] r s same = refl
  only_one [] (z ∷ zs) r s same = absurd (no_head (sym (kept_by (ties less z) z zs (tied_itself z)) ∙ sym (same z)))
  only_one (y ∷ ys) [] r s same = absurd (no_head (sym (kept_by (ties less y) y ys (tied_itself y)) ∙ same y))
  only_one (y ∷ ys) (z ∷ zs) r s same =
      let later : less z y ≡ false = not_below_first y z ys zs r same in
      let earlier : less y z ≡ false = not_below_first z y zs ys s (λ x. sym (same x)) in
      let first : y ≡ z = head_same (sym (kept_by (ties less y) y ys (tied_itself y)) ∙ same y ∙ kept_by (ties less y) z zs (both_not (less y z) (less z y) earlier later)) in
      let rest : ys ≡ zs = only_one ys zs r.1 s.1 (same_rest y ys zs (subst (λ v. SameTies (y ∷ ys) (v ∷ zs)) (sym first) same)) in
      ap (λ v. v ∷ ys) first ∙ ap (λ vs. z ∷ vs) rest

  NoneBelow-trans : (x y : X) (ys : List X) → less y x ≡ false → NoneBelow y ys → NoneBelow x ys
  NoneBelow-trans x y [] h below = tt
  NoneBelow-trans x y (z ∷ ys) h below = (o.chain z y x below.0 h, NoneBelow-trans x y ys h below.1)

  NoneBelow-put : (x y : X) (ys : List X) → less x y ≡ false → NoneBelow y ys → NoneBelow y (put less x ys)
  NoneBelow-put x y [] h below = (h, tt)
  NoneBelow-put x y (z ∷ ys) h below = elim (cases_Bool (less z x)) [
    | inl holds ↦ subst (NoneBelow y) (sym (cond-true _ _ _ holds)) (below.0, NoneBelow-put x y ys h below.1)
    | inr fails ↦ subst (NoneBelow y) (sym (cond-false _ _ _ fails)) (h, below)
  ]

  Rises-put : (x : X) (ys : List X) → Rises ys → Rises (put less x ys)
  Rises-put x [] r = (tt, tt)
  Rises-put x (y ∷ ys) r = elim (cases_Bool (less y x)) [
    | inl holds ↦ subst Rises (sym (cond-true _ _ _ holds)) (NoneBelow-put x y ys (o.one_way y x holds) r.0, Rises-put x ys r.1)
    | inr fails ↦ subst Rises (sym (cond-false _ _ _ fails)) ((fails, NoneBelow-trans x y ys fails r.0), r)
  ]

  Rises-in_order : (xs : List X) → Rises (in_order less xs)
  Rises-in_order [] = tt
  Rises-in_order (x ∷ xs) = Rises-put x (in_order less xs) (Rises-in_order xs)

  ties-put : (z x : X) (ys : List X) → filter (ties less z) (put less x ys) ≡ filter (ties less z) (x ∷ ys)
  ties-put z x [] = refl
  ties-put z x (y ∷ ys) =
      let p = ties less z in
      elim (cases_Bool (less y x)) [
        | inr fails ↦ ap (filter p) (cond-false _ _ _ fails)
        | inl holds ↦
            ap (filter p) (cond-true _ _ _ holds)
            ∙ elim (cases_Bool (p y)) [
              | inr without ↦
                  dropped_by p y (put less x ys) without ∙ ties-put z x ys
                  ∙ ap (λ l. cond (p x) (x ∷ l) l) (sym (dropped_by p y ys without))
              | inl also ↦
                  elim (cases_Bool (p x)) [
                    | inl both ↦
                        let left = parts_not (less z y) (less y z) also in
                        let right = parts_not (less z x) (less x z) both in
                        absurd (true≢false (sym holds ∙ o.chain y z x left.1 right.0))
                    | inr only ↦
                        kept_by p y (put less x ys) also ∙ ap (λ l. y ∷ l) (ties-put z x ys ∙ dropped_by p x ys only)
                        ∙ sym (dropped_by p x (y ∷ ys) only ∙ kept_by p y ys also)
                  ]
            ]
      ]

  ties-in_order : (z : X) (xs : List X) → filter (ties less z) (in_order less xs) ≡ filter (ties less z) xs
  ties-in_order z [] = refl
  ties-in_order z (x ∷ xs) = ties-put z x (in_order less xs) ∙ ap (λ l. cond (ties less z x) (x ∷ l) l) (ties-in_order z xs)

  pub is_in_order : (xs ys : List X) → IsSortedBy less ys → IsStableBy less xs ys → ys ≡ in_order less xs
  is_in_order xs ys sorted stable =
      only_one ys (in_order less xs) (Rises-from ys (sorted_far less o ys sorted)) (Rises-in_order xs) (λ x. stable x ∙ sym (ties-in_order x xs))
