-- A list in order is the same for every order in which its elements come, where elements that tie are one.
use Rattle.std.proofs.Common.{◌≡◌, zero, suc, Bool, true, false, not, ◌&&◌, List, [], ◌∷◌, map, refl, sym, ap, ◌∙◌, inl, inr, true≢false, suc-le-suc, zero-le, Contains}
use Rattle.std.specs.Cmp.{IsStrictWeakOrder}
use Rattle.std.specs.List.Sorted.{ties, IsPermutation}
use Rattle.std.proofs.lemmas.Bool.{cond-true, cond-false, cases_Bool}
use Rattle.std.proofs.lemmas.List.Sorted.{IsPermutation-sym, Contains-permutation}
use Rattle.cs_model.specs.Order.{put, in_order}
use Rattle.answer_laws.proofs.Moves.{by_permuted}

-- elements of this list that tie are one
abbrev pub TiedIsOne : {X : Type 0} → (X → X → Bool) → List X → Type 0
TiedIsOne {X} less xs = (x y : X) → Contains xs x → Contains xs y → ties less x y ≡ true → x ≡ y

first_of_all : {X : Type 0} (x : X) (xs : List X) → Contains (x ∷ xs) x
first_of_all x xs = (zero, suc-le-suc zero-le, refl)

pub one_further : {X : Type 0} (x y : X) (xs : List X) → Contains xs y → Contains (x ∷ xs) y
one_further x y xs (k, l, at) = (suc k, suc-le-suc l, at)

both_not : (a b : Bool) → a ≡ false → b ≡ false → (not a && not b) ≡ true
both_not a b h g = cc

module _ {X : Type 0} (less : X → X → Bool) (o : IsStrictWeakOrder less) where
  -- x < y: what is below x is below y, and what is not below y is not below x
  below_too : (z x y : X) → less x y ≡ true → less z x ≡ true → less z y ≡ true
  below_too z x y a b = elim (cases_Bool (less z y)) [
    | inl t ↦ t
    | inr f ↦ absurd (true≢false (sym b ∙ o.chain z y x f (o.one_way x y a)))
  ]

  not_below_too : (z x y : X) → less x y ≡ true → less z y ≡ false → less z x ≡ false
  not_below_too z x y a b = o.chain z y x b (o.one_way x y a)

  put_past : (x y : X) (ys : List X) → less y x ≡ true → put less x (y ∷ ys) ≡ y ∷ put less x ys
  put_past x y ys h = cond-true _ _ _ h

  put_first : (x y : X) (ys : List X) → less y x ≡ false → put less x (y ∷ ys) ≡ x ∷ y ∷ ys
  put_first x y ys h = cond-false _ _ _ h

  -- a lesser one and a greater one go in either way round
  put_both : (x y : X) (zs : List X) → less x y ≡ true → put less x (put less y zs) ≡ put less y (put less x zs)
  put_both x y [] h =
      put_first x y [] (o.one_way x y h) ∙ sym (put_past y x [] h)
  put_both x y (z ∷ zs) h = elim (cases_Bool (less z x)) [
    | inl t ↦
        let u = below_too z x y h t in
        ap (put less x) (put_past y z zs u) ∙ put_past x z (put less y zs) t ∙ ap (λ l. z ∷ l) (put_both x y zs h)
        ∙ sym (ap (put less y) (put_past x z zs t) ∙ put_past y z (put less x zs) u)
    | inr f ↦ elim (cases_Bool (less z y)) [
      | inl u ↦
          ap (put less x) (put_past y z zs u) ∙ put_first x z (put less y zs) f
          ∙ sym (ap (put less y) (put_first x z zs f) ∙ put_past y x (z ∷ zs) h ∙ ap (λ l. x ∷ l) (put_past y z zs u))
      | inr g ↦
          ap (put less x) (put_first y z zs g) ∙ put_first x y (z ∷ zs) (o.one_way x y h)
          ∙ sym (ap (put less y) (put_first x z zs f) ∙ put_past y x (z ∷ zs) h ∙ ap (λ l. x ∷ l) (put_first y z zs g))
    ]
  ]

  put-commutes : (x y : X) (zs : List X) → (ties less x y ≡ true → x ≡ y) → put less x (put less y zs) ≡ put less y (put less x zs)
  put-commutes x y zs one = elim (cases_Bool (less x y)) [
    | inl t ↦ put_both x y zs t
    | inr f ↦ elim (cases_Bool (less y x)) [
      | inl u ↦ sym (put_both y x zs u)
      | inr g ↦
          let e = one (both_not (less x y) (less y x) f g) in
          ap (λ v. put less v (put less y zs)) e ∙ ap (λ v. put less y (put less v zs)) (sym e)
    ]
  ]

  pub in_order-moved : (xs ys : List X) → IsPermutation xs ys → TiedIsOne less xs → in_order less xs ≡ in_order less ys
  in_order-moved = by_permuted (λ xs ys. TiedIsOne less xs → in_order less xs ≡ in_order less ys)
      (λ xs one. refl)
      (λ xs ys zs a b h k one. h one ∙ k (λ x y c d. one x y (Contains-permutation ys xs x (IsPermutation-sym xs ys a) c) (Contains-permutation ys xs y (IsPermutation-sym xs ys a) d)))
      (λ x xs ys a h one. ap (put less x) (h (λ y z c d. one y z (one_further x y xs c) (one_further x z xs d))))
      (λ x y xs one. put-commutes x y (in_order less xs) (one x y (first_of_all x (y ∷ xs)) (one_further x y (y ∷ xs) (first_of_all y xs))))

module _ {X Y : Type 0} (f : X → Y) (less : X → X → Bool) (below : Y → Y → Bool) (same : (a b : X) → below (f a) (f b) ≡ less a b) where
  put-map : (x : X) (xs : List X) → put below (f x) (map f xs) ≡ map f (put less x xs)
  put-map x [] = refl
  put-map x (y ∷ xs) = elim (cases_Bool (less y x)) [
    | inl t ↦ cond-true _ _ _ (same y x ∙ t) ∙ ap (λ l. f y ∷ l) (put-map x xs) ∙ sym (ap (map f) (cond-true _ _ _ t))
    | inr n ↦ cond-false _ _ _ (same y x ∙ n) ∙ sym (ap (map f) (cond-false _ _ _ n))
  ]

  pub in_order-map : (xs : List X) → in_order below (map f xs) ≡ map f (in_order less xs)
  in_order-map [] = refl
  in_order-map (x ∷ xs) = ap (put below (f x)) (in_order-map xs) ∙ put-map x (in_order less xs)
