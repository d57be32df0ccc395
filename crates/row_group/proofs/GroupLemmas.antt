-- The positions of a group by key.
use Rattle.std.proofs.Common.{◌≡◌, ◌≢◌, ℕ, ◌<◌, ◌≤◌, inl, inr, [], length, get_or, refl, sym, ◌∙◌, ap, arith, Bool, true, false, true≢false}
use Rattle.std.specs.Prelude.{slice_index}
use Rattle.std.specs.declared.cmp.Ordering.{Ordering}
use Rattle.std.specs.declared.cmp.Ordering.TheVariants.{Less, Equal, Greater}
use Rattle.std.specs.Ordering.{nat_cmp, ordering_then}
use Rattle.std.proofs.lemmas.Bool.{cases_lt}
use Rattle.std.proofs.lemmas.Cmp.{alike_right, tied_itself}
use Rattle.std.proofs.lemmas.List.{get_or-map, length-map}
use Rattle.cs_types.specs.declared.Key.{Key}
use Rattle.cs_types.specs.Rows.{key_in}
use Rattle.row_group.specs.Rows.{PackedRow}
use Rattle.cs_types.specs.Keys.{key_cmp}
use Rattle.cs_types.proofs.KeyLemmas.{key_total, exact_key}
use Rattle.row_group.specs.Groups.{Group, row_at, keys_of, key_at_place, precedes, AreByKey, ArePlacesOf, IsFirstPlace, IsSide}
use Rattle.row_group.proofs.OrderLemmas.{range-apart}
use Rattle.row_group.proofs.RankLemmas.{length-order, within-order, in-order}

-- what precedes still does, before what comes no later
precedes-before : (tied : Bool) (a b key : Key) → key_cmp b a ≢ Greater → precedes tied (key_cmp a key) ≡ true → precedes tied (key_cmp b key) ≡ true
precedes-before tied a b key no_later before = go (key_cmp b a) (key_cmp a key) refl refl
  where
    go : (r s : Ordering) → key_cmp b a ≡ r → key_cmp a key ≡ s → precedes tied (key_cmp b key) ≡ true
    go Less Less e f = ap (precedes tied) (key_total.trans b a key e f)
    go Less Equal e f = ap (precedes tied) (sym (alike_right key_total a key b f) ∙ e)
    go Less Greater e f = absurd (true≢false (sym before ∙ ap (precedes tied) f))
    go Equal s e f = ap (precedes tied) (key_total.congr b a key e) ∙ before
    go Greater s e f = absurd (no_later e)

-- each position stands at a place
abbrev pub HasEachPosition : Group → Type 0
HasEachPosition group =
    (position : ℕ) → position < length group.rows → (i : ℕ) × (i < length group.places) × (slice_index group.places i ≡ position)

-- what the order by key says of places
pub record ArePlacesByKey (group : Group) : Type 0 where
  pub counted : length group.places ≡ length group.rows
  pub within : (i : ℕ) → i < length group.places → slice_index group.places i < length group.rows
  pub each : HasEachPosition group
  pub once : (i j : ℕ) → i < length group.places → j < length group.places → slice_index group.places i ≡ slice_index group.places j → i ≡ j
  pub sorted : (i j : ℕ) → i < j → j < length group.places → ordering_then (key_cmp (key_at_place group i) (key_at_place group j)) (nat_cmp (slice_index group.places i) (slice_index group.places j)) ≡ Less

module _ (group : Group) (is : AreByKey group) where
  length-keys : length (keys_of group.key group.rows) ≡ length group.rows
  length-keys = length-map group.rows (λ row. key_in group.key row.cells)

  pub length-places : length group.places ≡ length group.rows
  length-places = length-order key_cmp (keys_of group.key group.rows) group.places is ∙ length-keys

  pub place-within : (p : ℕ) → p < length group.places → get_or group.places p 0 < length group.rows
  place-within p l = let m = within-order key_cmp (keys_of group.key group.rows) group.places is p l in omega (arith, length-keys)

  pub each_position : HasEachPosition group
  each_position position l = in-order key_cmp (keys_of group.key group.rows) group.places is position (omega (arith, length-keys))

  key-at : (d : Key) (p : ℕ) → p < length group.places → get_or (keys_of group.key group.rows) (get_or group.places p 0) d ≡ key_at_place group p
  key-at d p l = get_or-map (λ (row : PackedRow). key_in group.key row.cells) group.rows (get_or group.places p 0) (record { cells = []; begin = 0 }) d (place-within p l)

  pub places_by_key : ArePlacesByKey group
  places_by_key = record {
    counted = length-places;
    within = place-within;
    each = each_position;
    once = λ i j l m same. elim (cases_lt i j) [
      | inl less ↦ absurd (range-apart (length (keys_of group.key group.rows)) group.places is.all i j 0 less m same)
      | inr back ↦ elim (cases_lt j i) [
        | inl less ↦ absurd (range-apart (length (keys_of group.key group.rows)) group.places is.all j i 0 less l (sym same))
        | inr le ↦ omega arith
      ]
    ];
    sorted = λ i j less l.
        let p = get_or group.places i 0 in
        let q = get_or group.places j 0 in
        let d = key_at_place group i in
        ap (λ k. ordering_then (key_cmp k (key_at_place group j)) (nat_cmp p q)) (sym (key-at d i (omega arith)))
        ∙ ap (λ k. ordering_then (key_cmp (get_or (keys_of group.key group.rows) p d) k) (nat_cmp p q)) (sym (key-at d j l))
        ∙ is.ascending d i j 0 less l;
  }

module _ (group : Group) (by_key : AreByKey group) where
  -- keys do not fall along the places
  pub no_later : (p q : ℕ) → p ≤ q → q < length group.places → key_cmp (key_at_place group p) (key_at_place group q) ≢ Greater
  no_later p q le l greater = elim (cases_lt p q) [
    | inl less ↦
        later (sym (ap (λ r. ordering_then r (nat_cmp (get_or group.places p 0) (get_or group.places q 0))) greater) ∙ (places_by_key group by_key).sorted p q less l)
    | inr n ↦
        let e : p ≡ q = omega arith in
        differ (sym (tied_itself key_total (key_at_place group q)) ∙ ap (λ i. key_cmp (key_at_place group i) (key_at_place group q)) (sym e) ∙ greater)
  ]
    where
      later : Greater ≡ Less → ⊥
      later e = cc

      differ : Equal ≡ Greater → ⊥
      differ e = cc

  -- all places up to one that precedes do, and none from one on that does not
  pub all_before : (tied : Bool) (key : Key) (middle : ℕ) → middle < length group.places → precedes tied (key_cmp (key_at_place group middle) key) ≡ true → (i : ℕ) → i ≤ middle → precedes tied (key_cmp (key_at_place group i) key) ≡ true
  all_before tied key middle l before i m = precedes-before tied (key_at_place group middle) (key_at_place group i) key (no_later i middle m l) before

  pub none_after : (tied : Bool) (key : Key) (middle : ℕ) → precedes tied (key_cmp (key_at_place group middle) key) ≡ false → (i : ℕ) → middle ≤ i → i < length group.places → precedes tied (key_cmp (key_at_place group i) key) ≡ false
  none_after tied key middle after i le l = go (precedes tied (key_cmp (key_at_place group i) key)) refl
    where
      go : (b : Bool) → precedes tied (key_cmp (key_at_place group i) key) ≡ b → precedes tied (key_cmp (key_at_place group i) key) ≡ false
      go false e = e
      go true e = absurd (true≢false (sym (precedes-before tied (key_at_place group i) (key_at_place group middle) key (no_later middle i le l) e) ∙ after))

-- what neither comes before nor after ties
tie : (r : Ordering) → precedes false r ≡ false → precedes true r ≡ true → r ≡ Equal
tie Less e f = cc
tie Equal e f = refl
tie Greater e f = cc

clash : (r : Ordering) → precedes false r ≡ true → precedes true r ≡ false → ⊥
clash Less e f = cc
clash Equal e f = cc
clash Greater e f = cc

pub places_found : (group : Group) (key : Key) (from to : ℕ) → HasEachPosition group → IsFirstPlace group key false from → IsFirstPlace group key true to → ArePlacesOf group key from to
places_found group key from to each first last = record {
  ordered = elim (cases_lt to from) [
    | inl less ↦ absurd (clash (key_cmp (key_at_place group to) key) (first.before to less) (last.after to (omega arith) (omega (arith, first.within))))
    | inr more ↦ more
  ];
  within = last.within;
  of_key = λ i l m. exact_key (key_at_place group i) key (tie (key_cmp (key_at_place group i) key) (first.after i l (omega (arith, last.within))) (last.before i m));
  every = λ position l e.
      let (i, m, is) = each position l in
      let same : key_at_place group i ≡ key = ap (λ p. key_in group.key (row_at group p).cells) is ∙ e in
      let tied = ap (λ k. key_cmp k key) same ∙ tied_itself key_total key in
      (i, at_least i same (first.before i), below i m same, is);
}
  where
    tied : (i : ℕ) → key_at_place group i ≡ key → key_cmp (key_at_place group i) key ≡ Equal
    tied i same = ap (λ k. key_cmp k key) same ∙ tied_itself key_total key

    at_least : (i : ℕ) → key_at_place group i ≡ key → (i < from → precedes false (key_cmp (key_at_place group i) key) ≡ true) → from ≤ i
    at_least i same before = elim (cases_lt i from) [
      | inl less ↦ absurd (true≢false (sym (before less) ∙ ap (precedes false) (tied i same)))
      | inr more ↦ more
    ]

    below : (i : ℕ) → i < length group.places → key_at_place group i ≡ key → i < to
    below i m same = elim (cases_lt i to) [
      | inl less ↦ less
      | inr more ↦ absurd (true≢false (sym (ap (precedes true) (tied i same)) ∙ last.after i more m))
    ]

-- what comes before comes before or ties
pub also_tied : (r : Ordering) → precedes false r ≡ true → precedes true r ≡ true
also_tied Less e = refl
also_tied Equal e = cc
also_tied Greater e = cc

-- a key below all has no place at the first, and one above all none at the last
pub places_below : (group : Group) (key : Key) → HasEachPosition group → IsSide group key Less → ArePlacesOf group key 0 0
places_below group key each side = places_found group key 0 0 each (beside false) (beside true)
  where
    beside : (tied : Bool) → IsFirstPlace group key tied 0
    beside tied = record {
      within = omega arith;
      before = λ i l. absurd (omega arith);
      after = λ i l m. ap (precedes tied) (side i m);
    }

pub places_above : (group : Group) (key : Key) → HasEachPosition group → IsSide group key Greater → ArePlacesOf group key (length group.places) (length group.places)
places_above group key each side = places_found group key (length group.places) (length group.places) each (beside false) (beside true)
  where
    beside : (tied : Bool) → IsFirstPlace group key tied (length group.places)
    beside tied = record {
      within = omega arith;
      before = λ i l. ap (precedes tied) (side i l);
      after = λ i l m. absurd (omega arith);
    }
