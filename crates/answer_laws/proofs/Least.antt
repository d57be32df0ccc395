-- Count, sum, least and greatest of cells in another order, and of the cells of two lists of rows.
use Rattle.std.proofs.Common.{◌≡◌, ℕ, ℤ, pos, ◌+ℤ◌, Bool, true, false, cond, not, ◌||◌, List, [], ◌∷◌, ◌++◌, length, map, filter, fold, refl, sym, ap, ◌∙◌, inl, inr, true≢false}
use Rattle.std.proofs.Math.IntN.{+ℤ_assoc, +ℤ_comm, +ℤ_idl, +ℤ_idr}
use Rattle.std.specs.Cmp.{IsStrictWeakOrder}
use Rattle.std.specs.declared.cmp.Ordering.{Ordering}
use Rattle.std.specs.declared.cmp.Ordering.TheVariants.{Less, Equal, Greater}
use Rattle.std.specs.Ordering.{is_lt, is_gt, is_eq, ordering_reverse}
use Rattle.std.specs.List.Sorted.{IsPermutation}
use Rattle.std.proofs.lemmas.Bool.{cond-true, cond-false, cases_Bool}
use Rattle.std.proofs.lemmas.List.{map-append}
use Rattle.std.proofs.lemmas.List.Elements.{filter-append}
use Rattle.std.proofs.lemmas.List.Sorted.{IsPermutation-map, length_permutation, ranks_by}
use Rattle.std.proofs.lemmas.List.Sums.{fold-append}
use Rattle.cs_types.specs.declared.Value.{Value}
use Rattle.cs_types.specs.declared.Value.TheVariants.{Null, Number, Text}
use Rattle.cs_types.specs.Rows.{cell_at, number_in}
use Rattle.cs_types.specs.Values.{value_cmp}
use Rattle.cs_model.specs.Items.{is_null, present, sum_of, least_of, greatest_of, lesser, greater}
use Rattle.answer_laws.proofs.Orders.{value_total, value_decides}
use Rattle.answer_laws.proofs.Moves.{filter-moved, fold-moved}

null_is : (a : Value) → is_null a ≡ true → a ≡ Null
null_is Null h = refl
null_is (Number n) h = absurd (true≢false (sym h))
null_is (Text t) h = absurd (true≢false (sym h))

either_false : (a b : Bool) → a ≡ false → b ≡ false → (a || b) ≡ false
either_false a b h g = cc

-- of two values the first by a test
module _ (before : Value → Value → Bool) (chain : (x y z : Value) → before x y ≡ false → before y z ≡ false → before x z ≡ false) (one_way : (x y : Value) → before x y ≡ true → before y x ≡ false) (one : (x y : Value) → before x y ≡ false → before y x ≡ false → x ≡ y) where
  -- as `lesser` and `greater` are: NULL gives way, but NULL must not come second
  abbrev chosen : Value → Value → Value
  chosen a b = cond (is_null a || before b a) b a

  -- NULL only where both are
  abbrev joined : Value → Value → Value
  joined a b = cond (is_null b) a (chosen a b)

  abbrev first : Value → Value → Value
  first a b = cond (before b a) b a

  right_null : (a b : Value) → is_null b ≡ true → joined a b ≡ a
  right_null a b h = cond-true _ _ _ h

  left_null : (a b : Value) → is_null a ≡ true → joined a b ≡ b
  left_null a b h = elim (cases_Bool (is_null b)) [
    | inl t ↦ cond-true _ _ _ t ∙ null_is a h ∙ sym (null_is b t)
    | inr f ↦ cond-false _ _ _ f ∙ ap (λ n. cond (n || before b a) b a) h
  ]

  no_null : (a b : Value) → is_null a ≡ false → is_null b ≡ false → joined a b ≡ first a b
  no_null a b h g = cond-false _ _ _ g ∙ ap (λ n. cond (n || before b a) b a) h

  first_is_none : (a b : Value) → is_null a ≡ false → is_null b ≡ false → is_null (first a b) ≡ false
  first_is_none a b h g = elim (cases_Bool (before b a)) [
    | inl t ↦ ap is_null (cond-true _ b a t) ∙ g
    | inr f ↦ ap is_null (cond-false _ b a f) ∙ h
  ]

  below_too : (z x y : Value) → before x y ≡ true → before z x ≡ true → before z y ≡ true
  below_too z x y a b = elim (cases_Bool (before z y)) [
    | inl t ↦ t
    | inr f ↦ absurd (true≢false (sym b ∙ chain z y x f (one_way x y a)))
  ]

  first-assoc : (a b c : Value) → first (first a b) c ≡ first a (first b c)
  first-assoc a b c = elim (cases_Bool (before b a)) [
    | inl t ↦ elim (cases_Bool (before c b)) [
      | inl u ↦
          ap (λ v. first v c) (cond-true _ b a t) ∙ cond-true _ c b u
          ∙ sym (ap (first a) (cond-true _ c b u) ∙ cond-true _ c a (below_too c b a t u))
      | inr g ↦
          ap (λ v. first v c) (cond-true _ b a t) ∙ cond-false _ c b g
          ∙ sym (ap (first a) (cond-false _ c b g) ∙ cond-true _ b a t)
    ]
    | inr f ↦ elim (cases_Bool (before c b)) [
      | inl u ↦ ap (λ v. first v c) (cond-false _ b a f) ∙ sym (ap (first a) (cond-true _ c b u))
      | inr g ↦
          ap (λ v. first v c) (cond-false _ b a f) ∙ cond-false _ c a (chain c b a g f)
          ∙ sym (ap (first a) (cond-false _ c b g) ∙ cond-false _ b a f)
    ]
  ]

  first-comm : (a b : Value) → first a b ≡ first b a
  first-comm a b = elim (cases_Bool (before b a)) [
    | inl t ↦ cond-true _ b a t ∙ sym (cond-false _ a b (one_way b a t))
    | inr f ↦ elim (cases_Bool (before a b)) [
      | inl u ↦ cond-false _ b a f ∙ sym (cond-true _ a b u)
      | inr g ↦ cond-false _ b a f ∙ one a b g f ∙ sym (cond-false _ a b g)
    ]
  ]

  joined-assoc : (a b c : Value) → joined (joined a b) c ≡ joined a (joined b c)
  joined-assoc a b c = elim (cases_Bool (is_null a)) [
    | inl t ↦ ap (λ v. joined v c) (left_null a b t) ∙ sym (left_null a (joined b c) t)
    | inr f ↦ elim (cases_Bool (is_null b)) [
      | inl u ↦ ap (λ v. joined v c) (right_null a b u) ∙ sym (ap (joined a) (left_null b c u))
      | inr g ↦ elim (cases_Bool (is_null c)) [
        | inl w ↦ right_null (joined a b) c w ∙ sym (ap (joined a) (right_null b c w))
        | inr h ↦
            ap (λ v. joined v c) (no_null a b f g) ∙ no_null (first a b) c (first_is_none a b f g) h ∙ first-assoc a b c
            ∙ sym (ap (joined a) (no_null b c g h) ∙ no_null a (first b c) f (first_is_none b c g h))
      ]
    ]
  ]

  joined-comm : (a b : Value) → joined a b ≡ joined b a
  joined-comm a b = elim (cases_Bool (is_null a)) [
    | inl t ↦ left_null a b t ∙ sym (right_null b a t)
    | inr f ↦ elim (cases_Bool (is_null b)) [
      | inl u ↦ right_null a b u ∙ sym (left_null b a u)
      | inr g ↦ no_null a b f g ∙ first-comm a b ∙ sym (no_null b a g f)
    ]
  ]

  joined-swap : (a b c : Value) → joined (joined a b) c ≡ joined (joined a c) b
  joined-swap a b c = joined-assoc a b c ∙ ap (joined a) (joined-comm b c) ∙ sym (joined-assoc a c b)

  -- over cells that are no NULL the two are one
  over_present : (v : Value) (cells : List Value) → fold chosen v (filter (λ cell. not (is_null cell)) cells) ≡ fold joined v cells
  over_present v [] = refl
  over_present v (cell ∷ cells) = elim (cases_Bool (is_null cell)) [
    | inl t ↦ ap (fold chosen v) (cond-false _ _ _ (ap not t)) ∙ over_present v cells ∙ ap (λ w. fold joined w cells) (sym (right_null v cell t))
    | inr f ↦
        ap (fold chosen v) (cond-true _ _ _ (ap not f)) ∙ over_present (chosen v cell) cells
        ∙ ap (λ w. fold joined w cells) (sym (cond-false _ v (chosen v cell) f))
  ]

  from_front : (v : Value) (cells : List Value) → fold joined v cells ≡ joined v (fold joined Null cells)
  from_front v [] = refl
  from_front v (cell ∷ cells) =
      from_front (joined v cell) cells ∙ joined-assoc v cell (fold joined Null cells)
      ∙ ap (joined v) (sym (ap (λ w. fold joined w cells) (left_null Null cell refl) ∙ from_front cell cells))

  abbrev chosen_of : List Value → Value
  chosen_of cells = fold chosen Null (filter (λ cell. not (is_null cell)) cells)

  chosen_of-append : (xs ys : List Value) → chosen_of (xs ++ ys) ≡ joined (chosen_of xs) (chosen_of ys)
  chosen_of-append xs ys =
      over_present Null (xs ++ ys) ∙ fold-append joined Null xs ys ∙ from_front (fold joined Null xs) ys
      ∙ ap (λ v. joined v (fold joined Null ys)) (sym (over_present Null xs)) ∙ ap (joined (chosen_of xs)) (sym (over_present Null ys))

  chosen_of-moved : (xs ys : List Value) → IsPermutation xs ys → chosen_of xs ≡ chosen_of ys
  chosen_of-moved xs ys moved =
      over_present Null xs ∙ fold-moved joined joined-swap xs ys moved Null ∙ sym (over_present Null ys)

-- the order of values
abbrev less : Value → Value → Bool
less x y = is_lt (value_cmp x y)

abbrev more : Value → Value → Bool
more x y = is_gt (value_cmp x y)

less_ranks : IsStrictWeakOrder less
less_ranks = ranks_by value_total (λ x. x)

turned : (r : Ordering) → is_lt (ordering_reverse r) ≡ is_gt r
turned Less = refl
turned Equal = refl
turned Greater = refl

more_is : (x y : Value) → more x y ≡ less y x
more_is x y = sym (ap is_lt (value_total.antisymm y x) ∙ turned (value_cmp x y))

less_one : (x y : Value) → less x y ≡ false → less y x ≡ false → x ≡ y
less_one x y h g = go (value_cmp x y) refl
  where
    go : (r : Ordering) → value_cmp x y ≡ r → x ≡ y
    go Less e = absurd (true≢false (sym (ap is_lt e) ∙ h))
    go Equal e = (value_decides x y).0 (ap is_eq e)
    go Greater e = absurd (true≢false (sym (ap is_lt (value_total.antisymm y x ∙ ap ordering_reverse e)) ∙ g))

more_chain : (x y z : Value) → more x y ≡ false → more y z ≡ false → more x z ≡ false
more_chain x y z h g = more_is x z ∙ less_ranks.chain z y x (sym (more_is y z) ∙ g) (sym (more_is x y) ∙ h)

more_one_way : (x y : Value) → more x y ≡ true → more y x ≡ false
more_one_way x y h = more_is y x ∙ less_ranks.one_way y x (sym (more_is x y) ∙ h)

more_one : (x y : Value) → more x y ≡ false → more y x ≡ false → x ≡ y
more_one x y h g = less_one x y (sym (more_is y x) ∙ g) (sym (more_is x y) ∙ h)

module _ (column : ℕ) where
  abbrev cell_in : List Value → Value
  cell_in row = cell_at row column

  pub present-append : (xs ys : List (List Value)) → present column (xs ++ ys) ≡ present column xs ++ present column ys
  present-append xs ys = ap (filter (λ cell. not (is_null cell))) (map-append cell_in xs ys) ∙ filter-append (λ cell. not (is_null cell)) (map cell_in xs) (map cell_in ys)

  -- of the cells of two lists of rows the least is the lesser of both, NULL only where both are; so is the greatest
  pub least-append : (xs ys : List (List Value)) → least_of (present column (xs ++ ys))
      ≡ cond (is_null (least_of (present column ys))) (least_of (present column xs)) (lesser (least_of (present column xs)) (least_of (present column ys)))
  least-append xs ys =
      ap (λ cells. least_of (filter (λ cell. not (is_null cell)) cells)) (map-append cell_in xs ys)
      ∙ chosen_of-append less less_ranks.chain less_ranks.one_way less_one (map cell_in xs) (map cell_in ys)

  pub greatest-append : (xs ys : List (List Value)) → greatest_of (present column (xs ++ ys))
      ≡ cond (is_null (greatest_of (present column ys))) (greatest_of (present column xs)) (greater (greatest_of (present column xs)) (greatest_of (present column ys)))
  greatest-append xs ys =
      ap (λ cells. greatest_of (filter (λ cell. not (is_null cell)) cells)) (map-append cell_in xs ys)
      ∙ chosen_of-append more more_chain more_one_way more_one (map cell_in xs) (map cell_in ys)

  pub present-moved : (xs ys : List (List Value)) → IsPermutation xs ys → IsPermutation (present column xs) (present column ys)
  present-moved xs ys moved = filter-moved (λ cell. not (is_null cell)) (map cell_in xs) (map cell_in ys) (IsPermutation-map cell_in xs ys moved)

  pub count-moved : (xs ys : List (List Value)) → IsPermutation xs ys → length (present column xs) ≡ length (present column ys)
  count-moved xs ys moved = sym (length_permutation (present column xs) (present column ys) (present-moved xs ys moved))

  pub least-moved : (xs ys : List (List Value)) → IsPermutation xs ys → least_of (present column xs) ≡ least_of (present column ys)
  least-moved xs ys moved = chosen_of-moved less less_ranks.chain less_ranks.one_way less_one (map cell_in xs) (map cell_in ys) (IsPermutation-map cell_in xs ys moved)

  pub greatest-moved : (xs ys : List (List Value)) → IsPermutation xs ys → greatest_of (present column xs) ≡ greatest_of (present column ys)
  greatest-moved xs ys moved = chosen_of-moved more more_chain more_one_way more_one (map cell_in xs) (map cell_in ys) (IsPermutation-map cell_in xs ys moved)

abbrev plus : ℤ → Value → ℤ
plus sum cell = sum +ℤ number_in cell

sum-from : (s : ℤ) (cells : List Value) → fold plus s cells ≡ s +ℤ fold plus (pos 0) cells
sum-from s [] = sym (+ℤ_idr s)
sum-from s (cell ∷ cells) =
    sum-from (s +ℤ number_in cell) cells ∙ +ℤ_assoc s (number_in cell) (fold plus (pos 0) cells)
    ∙ ap (λ n. s +ℤ n) (sym (sum-from (pos 0 +ℤ number_in cell) cells ∙ ap (λ n. n +ℤ fold plus (pos 0) cells) (+ℤ_idl (number_in cell))))

pub sum_of-append : (xs ys : List Value) → sum_of (xs ++ ys) ≡ sum_of xs +ℤ sum_of ys
sum_of-append xs ys = fold-append plus (pos 0) xs ys ∙ sum-from (sum_of xs) ys

sums_swap : (s m n : ℤ) → (s +ℤ m) +ℤ n ≡ (s +ℤ n) +ℤ m
sums_swap s m n = +ℤ_assoc s m n ∙ ap (λ k. s +ℤ k) (+ℤ_comm m n) ∙ sym (+ℤ_assoc s n m)

pub sum_of-moved : (xs ys : List Value) → IsPermutation xs ys → sum_of xs ≡ sum_of ys
sum_of-moved xs ys moved = fold-moved plus (λ s x y. sums_swap s (number_in x) (number_in y)) xs ys moved (pos 0)
