-- The ends after a batch of them, and the positions that have ended for a snapshot.
use Rattle.std.proofs.Common.{◌≡◌, ◌≢◌, ℕ, suc, ◌+◌, ◌<◌, ◌⊎◌, inl, inr, Bool, true, false, not, cond, leb, List, [], ◌∷◌, ◌++◌, length, get_or, map, set, None, Some, All, Contains, ext_get_or, refl, sym, ap, subst, ◌∙◌, arith}
use Rattle.std.specs.List.{count_by, slice_get}
use Rattle.std.specs.List.Sorted.{IsPermutation}
use Rattle.std.proofs.lemmas.Bool.{cases_eq, cases_lt}
use Rattle.std.proofs.lemmas.List.{length-map, length-set, get_or_default, get_or_past, get_or-map, get_or-set_same, get_or-set_other, map-set, set-set, set_comm, set-get_or}
use Rattle.std.proofs.lemmas.List.Elements.{All-append, All-cons, All-head, All-map, All-tail, All-weaker}
use Rattle.std.proofs.lemmas.List.Kept.{AllPairs-cons}
use Rattle.std.proofs.lemmas.List.Sorted.{All-permutation, Contains-permutation, IsPermutation-sym}
use Rattle.std.proofs.lemmas.Option.{get_or_from_slice_get, slice_get-get_or, unwrap_or-slice_get}
use Rattle.delete_bitmap.specs.declared.MarkedEnd.TheVariants.{Plain, Stamped}
use Rattle.delete_bitmap.specs.Bits.{with_all}
use Rattle.delete_bitmap.specs.Kept.{Stamp, plain_end, ends_of, is_above, no_stamp, positions_of, stamped, without_above, without_stamp, AreInOrder, AreKept, Ascend, HasNone}
use Rattle.delete_bitmap.specs.Marks.{end_at, is_removable, with_each, with_ends}
use Rattle.delete_bitmap.proofs.EndLemmas.{End, IsFree, IsSetIn, AreMarked, IsApart, AreApart, AreApart-order, length-ends_of, later, in_order_tail, set_within, at_bit, at_apart, plain_under, ends_of-set, above-leb}
use Rattle.delete_bitmap.proofs.StampSearch.{count-set}

-- of ascending positions those after the first are so too, and are others than it
ascend_tail : (p : ℕ) (ps : List ℕ) → Ascend (p ∷ ps) → Ascend ps
ascend_tail p ps up i j d less there = up (suc i) (suc j) d (omega arith) (omega arith)

ascend_later : (p : ℕ) (ps : List ℕ) → Ascend (p ∷ ps) → All (λ q. q ≢ p) ps
ascend_later p ps up k d there same = let less = up 0 (suc k) d (omega arith) (omega arith) in absurd (omega arith)

length-with_all : (ps : List ℕ) (bits : List Bool) → length (with_all ps bits) ≡ length bits
length-with_all [] bits = refl
length-with_all (p ∷ ps) bits = length-with_all ps (set bits p true) ∙ length-set bits p true

-- a position in a set stays in it as others are put in
with_all-keeps : (ps : List ℕ) (bits : List Bool) (q : ℕ) → get_or bits q false ≡ true → get_or (with_all ps bits) q false ≡ true
with_all-keeps [] bits q is = is
with_all-keeps (p ∷ ps) bits q is = with_all-keeps ps (set bits p true) q (elim (cases_eq q p) [
  | inl same ↦ ap (λ i. get_or (set bits p true) i false) same ∙ get_or-set_same bits p true false (subst (λ i. i < length bits) same (set_within bits q is))
  | inr other ↦ get_or-set_other bits p q true false other ∙ is
])

-- each position that is put in is in it
with_all-has : (ps : List ℕ) (bits : List Bool) → All (λ p. p < length bits) ps → All (λ p. get_or (with_all ps bits) p false ≡ true) ps
with_all-has [] bits within = λ k d there. absurd (omega arith)
with_all-has (p ∷ ps) bits within =
    let P : ℕ → Type 0 = λ q. q < length bits in
    All-cons (λ q. get_or (with_all (p ∷ ps) bits) q false ≡ true) p ps
    (with_all-keeps ps (set bits p true) p (get_or-set_same bits p true false (All-head P p ps within)))
    (with_all-has ps (set bits p true) (λ k d there. let short = All-tail P p ps within k d there in omega (arith, length-set bits p true)))

-- so many more are in it as are put in
count-with_all : (ps : List ℕ) (bits : List Bool) → Ascend ps → All (λ p. p < length bits) ps → All (λ p. get_or bits p false ≡ false) ps
    → count_by (λ (bit : Bool). bit) (with_all ps bits) ≡ count_by (λ (bit : Bool). bit) bits + length ps
count-with_all [] bits up within unset = omega arith
count-with_all (p ∷ ps) bits up within unset =
    let P : ℕ → Type 0 = λ q. q < length bits in
    let U : ℕ → Type 0 = λ q. get_or bits q false ≡ false in
    let rest = count-with_all ps (set bits p true) (ascend_tail p ps up)
    (λ k d there. let short = All-tail P p ps within k d there in omega (arith, length-set bits p true))
    (λ k d there. get_or-set_other bits p (get_or ps k d) true false (ascend_later p ps up k d there) ∙ All-tail U p ps unset k d there) in
    let one = count-set bits p (All-head P p ps within) (All-head U p ps unset) in
    omega (arith, rest, one)

-- the positions of stamps in order ascend
ascend-positions_of : (stamps : List Stamp) → AreInOrder stamps → Ascend (positions_of stamps)
ascend-positions_of stamps up i j d less there =
    let short : j < length stamps = omega (arith, length-map stamps (λ (s : Stamp). s.0)) in
    let x = get_or-map (λ (s : Stamp). s.0) stamps i no_stamp d (omega arith) in
    let y = get_or-map (λ (s : Stamp). s.0) stamps j no_stamp d short in
    omega (arith, x, y, up i j no_stamp less short)

-- the stamps of a batch and those before it stand at positions in the set
marked-all : (news stamps : List Stamp) (bits : List Bool) → All (λ p. p < length bits) (positions_of news) → AreMarked bits stamps → AreMarked (with_all (positions_of news) bits) (news ++ stamps)
marked-all news stamps bits within marked =
    let ps : List ℕ = positions_of news in
    All-append (IsSetIn (with_all ps bits)) news stamps
    (λ k d there.
    ap (λ p. get_or (with_all ps bits) p false) (sym (get_or-map (λ (s : Stamp). s.0) news k d d.0 there))
    ∙ with_all-has ps bits within k d.0 (omega (arith, there, length-map news (λ (s : Stamp). s.0))))
    (All-weaker (IsSetIn bits) (IsSetIn (with_all ps bits)) (λ s is. with_all-keeps ps bits s.0 is) stamps marked)

-- they are of different positions
apart-all : (news stamps : List Stamp) → AreInOrder news → All (λ (s : Stamp). HasNone s.0 stamps) news → AreApart stamps → AreApart (news ++ stamps)
apart-all [] stamps up none apart = apart
apart-all (s ∷ rest) stamps up none apart =
    let N : Stamp → Type 0 = λ t. HasNone t.0 stamps in
    AllPairs-cons (λ (t u : Stamp). t.0 ≢ u.0) s (rest ++ stamps)
    (All-append (λ (t : Stamp). s.0 ≢ t.0) rest stamps
    (λ k d there same. let less = up 0 (suc k) d (omega arith) (omega arith) in absurd (omega (arith, less, same)))
    (λ k d there same. All-head N s rest none k d there (sym same)))
    (apart-all rest stamps (in_order_tail s rest up) (All-tail N s rest none) apart)

later_positions : (s : Stamp) (rest : List Stamp) → AreInOrder (s ∷ rest) → All (λ (t : Stamp). t.0 ≢ s.0) rest
later_positions s rest up k d there same = let less = up 0 (suc k) d (omega arith) (omega arith) in absurd (omega (arith, less, same))

-- an end at another position may be set before the batch or after it
with_each-set : (news : List Stamp) (ends : List End) (p : ℕ) (end : End) → All (λ (s : Stamp). s.0 ≢ p) news → with_each news (set ends p end) ≡ set (with_each news ends) p end
with_each-set [] ends p end other = refl
with_each-set (s ∷ rest) ends p end other =
    let O : Stamp → Type 0 = λ t. t.0 ≢ p in
    ap (with_each rest) (set_comm ends p s.0 end (Some (Stamped s.1)) (λ same. All-head O s rest other (sym same)))
    ∙ with_each-set rest (set ends s.0 (Some (Stamped s.1))) p end (All-tail O s rest other)

-- the stamps of a batch before the others stand for the ends with those of the batch
ends_of-all : (news stamps : List Stamp) (bits : List Bool) → AreInOrder news → All (λ (s : Stamp). HasNone s.0 stamps) news
    → ends_of (news ++ stamps) (with_all (positions_of news) bits) ≡ with_each news (ends_of stamps bits)
ends_of-all [] stamps bits up none = refl
ends_of-all (s ∷ rest) stamps bits up none =
    let N : Stamp → Type 0 = λ t. HasNone t.0 stamps in
    let end : End = Some (Stamped s.1) in
    let ends : List End = ends_of stamps bits in
    let other = later_positions s rest up in
    ap (λ (es : List End). set es s.0 end) (ends_of-all rest stamps (set bits s.0 true) (in_order_tail s rest up) (All-tail N s rest none))
    ∙ ap (λ (es : List End). set (with_each rest es) s.0 end) (ends_of-set stamps bits s.0 (All-head N s rest none))
    ∙ ap (λ (es : List End). set es s.0 end) (with_each-set rest ends s.0 (Some Plain) other)
    ∙ set-set (with_each rest ends) s.0 (Some Plain) end
    ∙ sym (with_each-set rest ends s.0 end other)

-- a batch with one commit ends its positions
pub with_each-stamped : (ps : List ℕ) (commit : ℕ) (ends : List End) → with_each (stamped ps commit) ends ≡ with_ends ps commit ends
with_each-stamped [] commit ends = refl
with_each-stamped (p ∷ ps) commit ends = with_each-stamped ps commit (set ends p (Some (Stamped commit)))

-- a position has no stamp, or one at some place
pub stamp_or_none : (p : ℕ) (stamps : List Stamp) → HasNone p stamps ⊎ ((k : ℕ) × (k < length stamps) × ((get_or stamps k no_stamp).0 ≡ p))
stamp_or_none p [] = inl (λ k d there. absurd (omega arith))
stamp_or_none p (s ∷ rest) = elim (cases_eq s.0 p) [
  | inl same ↦ inr (0, omega arith, same)
  | inr other ↦ elim (stamp_or_none p rest) [
    | inl none ↦ inl (All-cons (IsApart p) s rest other none)
    | inr at ↦ inr (suc at.0, omega (arith, at.1), at.2)
  ]
]

-- the order of stamps does not matter
ends_of-permuted : (xs ys : List Stamp) (bits : List Bool) → IsPermutation xs ys → AreApart xs → AreApart ys → AreMarked bits xs → AreMarked bits ys → ends_of ys bits ≡ ends_of xs bits
ends_of-permuted xs ys bits moved xs_apart ys_apart xs_marked ys_marked =
    ext_get_or None (ends_of ys bits) (ends_of xs bits) (length-ends_of ys bits ∙ sym (length-ends_of xs bits)) (λ p _. elim (stamp_or_none p ys) [
      | inl none ↦ at_bit ys bits p none ∙ sym (at_bit xs bits p (All-permutation (IsApart p) ys xs (IsPermutation-sym xs ys moved) none))
      | inr at ↦
          let s : Stamp = get_or ys at.0 no_stamp in
          let has : Contains xs s = Contains-permutation ys xs s (IsPermutation-sym xs ys moved) (at.0, at.1, get_or_default ys at.0 s no_stamp at.1) in
          let here : get_or (ends_of xs bits) s.0 None ≡ Some (Stamped s.1) =
          subst (λ (t : Stamp). get_or (ends_of xs bits) t.0 None ≡ Some (Stamped t.1)) has.2 (at_apart xs bits has.0 s xs_apart xs_marked has.1) in
          subst (λ i. get_or (ends_of ys bits) i None ≡ get_or (ends_of xs bits) i None) at.2 (at_apart ys bits at.0 no_stamp ys_apart ys_marked at.1 ∙ sym here)
    ])

module _ (news stamps merged : List Stamp) (bits : List Bool) (count : ℕ) (up : AreInOrder news) (free : All (λ (s : Stamp). IsFree stamps bits s.0) news) (kept : AreKept bits stamps count)
    (moved : IsPermutation (news ++ stamps) merged) (order : AreInOrder merged) where
  none_there : All (λ (s : Stamp). HasNone s.0 stamps) news
  none_there k d there = (free k d there).none

  pub within_all : All (λ p. p < length bits) (positions_of news)
  within_all = All-map (λ p. p < length bits) (λ (s : Stamp). s.0) news (λ k d there. (free k d there).within)

  -- so many more are in the set as the batch has stamps
  pub count-all : count_by (λ (bit : Bool). bit) (with_all (positions_of news) bits) ≡ count_by (λ (bit : Bool). bit) bits + length news
  count-all =
      let unset = All-map (λ p. get_or bits p false ≡ false) (λ (s : Stamp). s.0) news (λ k d there. (free k d there).unset) in
      let more = count-with_all (positions_of news) bits (ascend-positions_of news up) within_all unset in
      omega (arith, more, length-map news (λ (s : Stamp). s.0))

  -- a batch keeps what is kept true
  pub AreKept-all : AreKept (with_all (positions_of news) bits) merged (count + length news)
  AreKept-all = record {
    in_order = order;
    marked = All-permutation (IsSetIn (with_all (positions_of news) bits)) (news ++ stamps) merged moved (marked-all news stamps bits within_all kept.marked);
    counted = omega (arith, kept.counted, count-all);
  }

  -- and adds its ends
  pub ends_of-merged : ends_of merged (with_all (positions_of news) bits) ≡ with_each news (ends_of stamps bits)
  ends_of-merged =
      let marked = marked-all news stamps bits within_all kept.marked in
      ends_of-permuted (news ++ stamps) merged (with_all (positions_of news) bits) moved
      (apart-all news stamps up none_there (AreApart-order stamps kept.in_order)) (AreApart-order merged order) marked
      (All-permutation (IsSetIn (with_all (positions_of news) bits)) (news ++ stamps) merged moved marked)
      ∙ ends_of-all news stamps bits up none_there

pub length-without_above : (floor : ℕ) (stamps : List Stamp) (bits : List Bool) → length (without_above floor stamps bits) ≡ length bits
length-without_above floor [] bits = refl
length-without_above floor (s ∷ rest) bits = length-without_above floor rest (without_stamp floor bits s) ∙ step (is_above floor s)
  where
    step : (above : Bool) → length (cond above (set bits s.0 false) bits) ≡ length bits
    step true = length-set bits s.0 false
    step false = refl

-- a position may be taken out before those of the stamps or after them
without_above-set : (floor : ℕ) (stamps : List Stamp) (bits : List Bool) (p : ℕ) → HasNone p stamps → without_above floor stamps (set bits p false) ≡ set (without_above floor stamps bits) p false
without_above-set floor [] bits p none = refl
without_above-set floor (s ∷ rest) bits p none =
    ap (without_above floor rest) (step (is_above floor s)) ∙ without_above-set floor rest (without_stamp floor bits s) p (All-tail (IsApart p) s rest none)
  where
    step : (above : Bool) → cond above (set (set bits p false) s.0 false) (set bits p false) ≡ set (cond above (set bits s.0 false) bits) p false
    step true = set_comm bits p s.0 false false (λ same. All-head (IsApart p) s rest none (sym same))
    step false = refl

removable-plain : (floor : ℕ) (bits : List Bool) → map (is_removable floor) (map plain_end bits) ≡ bits
removable-plain floor [] = refl
removable-plain floor (true ∷ bits) = ap (λ (bs : List Bool). true ∷ bs) (removable-plain floor bits)
removable-plain floor (false ∷ bits) = ap (λ (bs : List Bool). false ∷ bs) (removable-plain floor bits)

removable-more : (floor : ℕ) (s : Stamp) (rest : List Stamp) (bits : List Bool) → AreInOrder (s ∷ rest) → AreMarked bits (s ∷ rest)
    → map (is_removable floor) (ends_of rest bits) ≡ without_above floor rest bits → map (is_removable floor) (ends_of (s ∷ rest) bits) ≡ without_above floor (s ∷ rest) bits
removable-more floor s rest bits up marked before =
    map-set (is_removable floor) (ends_of rest bits) s.0 (Some (Stamped s.1))
    ∙ ap (λ (bs : List Bool). set bs s.0 (leb s.1 floor)) before
    ∙ step (leb s.1 floor)
    ∙ ap (λ (above : Bool). without_above floor rest (cond above (set bits s.0 false) bits)) (sym (above-leb floor s.1))
  where
    under : get_or (without_above floor rest bits) s.0 false ≡ true
    under =
        let is = All-head (IsSetIn bits) s rest marked in
        sym (ap (λ (bs : List Bool). get_or bs s.0 false) before)
        ∙ get_or-map (is_removable floor) (ends_of rest bits) s.0 None false (omega (arith, length-ends_of rest bits, set_within bits s.0 is))
        ∙ ap (is_removable floor) (plain_under s rest bits (later s rest up) is)

    step : (t : Bool) → set (without_above floor rest bits) s.0 t ≡ without_above floor rest (cond (not t) (set bits s.0 false) bits)
    step true = ap (set (without_above floor rest bits) s.0) (sym under) ∙ set-get_or (without_above floor rest bits) s.0 false
    step false = sym (without_above-set floor rest bits s.0 (later s rest up))

-- the positions that have ended are those in the set, without those of the stamps above
pub removable-ends_of : (floor : ℕ) (stamps : List Stamp) (bits : List Bool) → AreInOrder stamps → AreMarked bits stamps → map (is_removable floor) (ends_of stamps bits) ≡ without_above floor stamps bits
removable-ends_of floor [] bits up marked = removable-plain floor bits
removable-ends_of floor (s ∷ rest) bits up marked =
    removable-more floor s rest bits up marked (removable-ends_of floor rest bits (in_order_tail s rest up) (All-tail (IsSetIn bits) s rest marked))

-- whether the end at a position is removable
pub removable_at : (floor : ℕ) (ends : List End) (p : ℕ) → get_or (map (is_removable floor) ends) p false ≡ is_removable floor (end_at ends p)
removable_at floor ends p =
    elim (cases_lt p (length ends)) [
      | inl there ↦ get_or-map (is_removable floor) ends p None false there
      | inr past ↦ get_or_past (map (is_removable floor) ends) p false (omega (arith, length-map ends (is_removable floor))) ∙ sym (ap (is_removable floor) (get_or_past ends p None past))
    ]
    ∙ sym (ap (is_removable floor) (unwrap_or-slice_get ends p None))

-- the stamps stand for the ends that are not plain
pub stamped_at : (stamps : List Stamp) (bits : List Bool) (p commit : ℕ) → AreInOrder stamps → AreMarked bits stamps → Contains stamps (p, commit) → slice_get (ends_of stamps bits) p ≡ Some (Some (Stamped commit))
stamped_at stamps bits p commit up marked (k, there, is) =
    let set = subst (λ (s : Stamp). get_or bits s.0 false ≡ true) is (marked k (p, commit) there) in
    slice_get-get_or (ends_of stamps bits) p None (omega (arith, length-ends_of stamps bits, set_within bits p set))
    ∙ ap (λ (end : End). Some end)
    (subst (λ (s : Stamp). get_or (ends_of stamps bits) s.0 None ≡ Some (Stamped s.1)) is (at_apart stamps bits k (p, commit) (AreApart-order stamps up) marked there))

pub stamp_of : (stamps : List Stamp) (bits : List Bool) (p commit : ℕ) → AreInOrder stamps → AreMarked bits stamps → slice_get (ends_of stamps bits) p ≡ Some (Some (Stamped commit)) → Contains stamps (p, commit)
stamp_of stamps bits p commit up marked is = elim (stamp_or_none p stamps) [
  | inl none ↦ absurd (differ (get_or bits p false) (sym (at_bit stamps bits p none) ∙ end))
  | inr at ↦
      let s : Stamp = get_or stamps at.0 no_stamp in
      let same : s.1 ≡ commit = one s.1 (sym (at_apart stamps bits at.0 no_stamp (AreApart-order stamps up) marked at.1) ∙ ap (λ i. get_or (ends_of stamps bits) i None) at.2 ∙ end) in
      (at.0, at.1, get_or_default stamps at.0 (p, commit) no_stamp at.1 ∙ (λ i. (at.2 i, same i)))
]
  where
    end : get_or (ends_of stamps bits) p None ≡ Some (Stamped commit)
    end = get_or_from_slice_get (ends_of stamps bits) p (Some (Stamped commit)) None is

    differ : (b : Bool) → plain_end b ≡ Some (Stamped commit) → ⊥
    differ true e = cc
    differ false e = cc

    one : (c : ℕ) → Some (Stamped c) ≡ Some (Stamped commit) → c ≡ commit
    one c e = cc
