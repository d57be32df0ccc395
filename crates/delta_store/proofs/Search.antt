-- What a search finds among sorted pairs, and what an edit at that place does.
use Rattle.std.proofs.Common.{◌≡◌, ℕ, ℤ, ◌+◌, ◌-◌, ◌<◌, ◌≤◌, ◌<ℤ◌, Bool, true, false, List, length, get_or, set, slice_get, Some, None, Result, Ok, Err, IfOk, IfErr, refl, sym, ap, inl, inr, subst, arith}
use Rattle.std.specs.List.{insert}
use Rattle.std.specs.List.Sorted.{IsSearchInRange, IsBinarySearchResult, IsNonDecreasingBy}
use Rattle.std.specs.Bool.{OnTrue}
use Rattle.std.specs.declared.cmp.Ordering.{Ordering}
use Rattle.std.specs.declared.cmp.Ordering.TheVariants.{Less, Equal, Greater}
use Rattle.std.specs.Ordering.{int_cmp, is_lt, ordering_index}
use Rattle.std.proofs.lemmas.Cmp.{int_ranked}
use Rattle.std.proofs.lemmas.Int.{ints}
use Rattle.std.proofs.lemmas.Bool.{cases_lt}
use Rattle.std.proofs.lemmas.List.Sorted.{IsNonDecreasingBy-from_default}
use Rattle.std.proofs.lemmas.Option.{get_or_from_slice_get}
use Rattle.std.proofs.lemmas.List.Edits.{length-insert, get_or-insert_below, get_or-insert_at, get_or-insert_above}
use Rattle.cs_types.specs.declared.Key.{Key}
use Rattle.delta_store.specs.Index.{place_in, key_at, no_pair, AreInOrder, IsAt, IsGapFor, SetsOnly}
use Rattle.delta_store.proofs.Pairs.{NoKeyBefore, place_in-absent, place_in-present, place_in-set, place_in-insert}

not_below_itself : (a : ℤ) → a <ℤ a → ⊥
not_below_itself a h = omega (arith, ints)

rises : (a b k : ℤ) → a <ℤ b → ordering_index (int_cmp a k) ≤ ordering_index (int_cmp b k)
rises a b k h = grind (arith, ints)

module _ (l : List (Key × ℕ)) (sorted : AreInOrder l) (k : Key) where
  -- a binary search by key ends at the key, or at the gap for it
  pub searched : (r : Result ℕ ℕ) → IsSearchInRange r (length l) → IsBinarySearchResult (λ pair. int_cmp pair.0.0 k.0) l r → record { found : IfOk r (IsAt l k); absent : IfErr r (IsGapFor l k) }
  searched (Ok at) in_range equal = record { found = record { in_range = in_range; has_key = int_ranked _ k.0 _ (sym (equal no_pair)) }; absent = tt }
  searched (Err at) in_range parted = record {
    found = tt;
    absent = record {
      in_range = in_range;
      smaller_before = λ j lt. int_ranked _ k.0 _ (sym ((parted comparisons_rise).0 j no_pair (omega arith) lt));
      greater_after = λ j le lt. int_ranked _ k.0 _ (sym ((parted comparisons_rise).1 j no_pair le lt));
    };
  }
    where
      comparisons_rise : IsNonDecreasingBy (λ pair. ordering_index (int_cmp pair.0.0 k.0)) l
      comparisons_rise = IsNonDecreasingBy-from_default (λ pair. ordering_index (int_cmp pair.0.0 k.0)) l no_pair (λ i j le in_range. elim (cases_lt i j) [
        | inl lt ↦ rises _ _ _ (sorted i j lt in_range)
        | inr ge ↦ let same : i ≡ j = omega arith in rw same (omega arith)
      ])

module _ (l : List (Key × ℕ)) (sorted : AreInOrder l) (k : Key) (at : ℕ) (is_at : IsAt l k at) where
  -- the keys before the place are smaller, so none is k
  no_key_before_at : NoKeyBefore l k at
  no_key_before_at j lt same = not_below_itself k.0 (let below = sorted j at lt is_at.in_range in rw (same, is_at.has_key) at below)

  -- the key is found at its place
  pub place_at : place_in l k ≡ Some (get_or l at no_pair).1
  place_at = place_in-present l k at is_at no_key_before_at

  -- writing over its pair changes that key alone
  pub sets_only_set : (v : ℕ) → SetsOnly l (set l at (k, v)) k v
  sets_only_set v = place_in-set l k v at is_at no_key_before_at

module _ (l : List (Key × ℕ)) (k : Key) (at : ℕ) (gap : IsGapFor l k at) where
  -- a key that has a gap is not found
  pub no_place : place_in l k ≡ None
  no_place = place_in-absent l k (λ j lt same. elim (cases_lt j at) [
    | inl below ↦ not_below_itself k.0 (rw same at (gap.smaller_before j below))
    | inr above ↦ not_below_itself k.0 (rw same at (gap.greater_after j above lt))
  ])

  -- a new pair in the gap changes that key alone
  pub sets_only_insert : (v : ℕ) → SetsOnly l (insert l at (k, v)) k v
  sets_only_insert v = place_in-insert l k v at (λ j lt same. not_below_itself k.0 (rw same at (gap.smaller_before j lt)))

  -- it keeps the order: each new key is an old one below the gap, k at it, or an old one moved up by one
  pub sorted_insert : (v : ℕ) → AreInOrder l → AreInOrder (insert l at (k, v))
  sorted_insert v sorted i j lt in_range =
      let new = insert l at (k, v) in
      let key = λ (x : Key × ℕ). x.0.0 in
      let length_new = length-insert l at (k, v) gap.in_range in
      let key_below : (i : ℕ) → i < at → key_at new i ≡ key_at l i = λ i below. ap key (get_or-insert_below l at (k, v) no_pair i below gap.in_range) in
      let key_here : (i : ℕ) → i ≡ at → key_at new i ≡ k.0 = λ i here. rw here (ap key (get_or-insert_at l at (k, v) no_pair gap.in_range)) in
      let key_above : (i : ℕ) → at < i → key_at new i ≡ key_at l (i - 1) = λ i above. subst (λ q. key_at new q ≡ key_at l (i - 1)) {x = i - 1 + 1} (omega arith) (ap key (get_or-insert_above l at (k, v) no_pair (i - 1) (omega arith) gap.in_range)) in
      grind (arith, ints, key_below i, key_here i, key_above i, key_below j, key_here j, key_above j, sorted i j, sorted i (j - 1), sorted (i - 1) (j - 1), gap.smaller_before i, gap.greater_after (j - 1))

-- a key above the last one goes after them all
pub past_gap : (l : List (Key × ℕ)) → AreInOrder l → (k : Key) (last : Key × ℕ) → Some last ≡ slice_get l (length l - 1) → (r : Bool) → r ≡ is_lt (int_cmp last.0.0 k.0) → OnTrue r (IsGapFor l k (length l))
past_gap l sorted k last is false r_is = tt
past_gap l sorted k last is true r_is = record {
  in_range = omega arith;
  smaller_before = λ j there. elim (cases_lt j (length l - 1)) [
    | inl before ↦ let rise : key_at l j <ℤ last.0.0 = rw key_last at (sorted j (length l - 1) before (omega arith)) in let under = below in grind (arith, ints)
    | inr end ↦ let at_end : j ≡ length l - 1 = omega arith in rw (at_end, key_last) below
  ];
  greater_after = λ j from there. absurd (omega arith);
}
  where
    key_last : key_at l (length l - 1) ≡ last.0.0
    key_last = ap (λ (x : Key × ℕ). x.0.0) (get_or_from_slice_get l (length l - 1) last no_pair (sym is))

    below : last.0.0 <ℤ k.0
    below = step (int_cmp last.0.0 k.0) refl r_is
      where
        step : (o : Ordering) → o ≡ int_cmp last.0.0 k.0 → true ≡ is_lt o → last.0.0 <ℤ k.0
        step Less o_is lt = int_ranked last.0.0 k.0 Less o_is
        step Equal o_is lt = absurd (cc)
        step Greater o_is lt = absurd (cc)
