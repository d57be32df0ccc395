-- What a search among stamps finds, and a new stamp at the place that it gives.
use Rattle.std.proofs.Common.{◌≡◌, ℕ, ◌+◌, ◌-◌, ◌<◌, ◌≤◌, Bool, true, false, cond, List, length, get_or, set, take, drop, Result, Ok, Err, IfOk, IfErr, sym, ap, subst, ◌∙◌, inl, inr, arith}
use Rattle.std.specs.List.{count_by, insert}
use Rattle.std.specs.List.Sorted.{IsSearchInRange, IsBinarySearchResult, IsNonDecreasingBy}
use Rattle.std.specs.Ordering.{nat_cmp, ordering_index}
use Rattle.std.proofs.lemmas.Bool.{cases_lt}
use Rattle.std.proofs.lemmas.Bool.Decides.{nat_tests}
use Rattle.std.proofs.lemmas.Cmp.{ranked}
use Rattle.std.proofs.lemmas.List.{get_or_default, get_or-set_same, get_or-set_other}
use Rattle.std.proofs.lemmas.List.Edits.{length-insert, get_or-insert_below, get_or-insert_at, get_or-insert_above}
use Rattle.std.proofs.lemmas.List.Elements.{All-append, All-cons, All-take, All-drop, All-weaker}
use Rattle.std.proofs.lemmas.List.Sums.{sum_by-set}
use Rattle.delete_bitmap.specs.Kept.{Stamp, AreInOrder, AreKept, HasNone, no_stamp, IsStampAt, IsGapFor}
use Rattle.delete_bitmap.proofs.EndLemmas.{AreMarked, IsSetIn}

rises : (a b p : ℕ) → a ≤ b → ordering_index (nat_cmp a p) ≤ ordering_index (nat_cmp b p)
rises a b p h = grind (arith, nat_tests)

-- a binary search by position ends at the position's stamp, or at the gap for it
pub searched : (stamps : List Stamp) (p : ℕ) (r : Result ℕ ℕ) → AreInOrder stamps → IsSearchInRange r (length stamps) → IsBinarySearchResult (λ (s : Stamp). nat_cmp s.0 p) stamps r
    → IfOk r (IsStampAt stamps p) × IfErr r (IsGapFor stamps p)
searched stamps p (Ok at) up within equal = (record { there = within; is_of = ranked _ p _ (sym (equal no_stamp)) }, tt)
searched stamps p (Err at) up within parted = (
  tt,
  record {
    within = within;
    smaller_before = λ k less. ranked _ p _ (sym ((parted comparisons_rise).0 k no_stamp (omega arith) less));
    greater_after = λ k from there. ranked _ p _ (sym ((parted comparisons_rise).1 k no_stamp from there));
  },
)
  where
    comparisons_rise : IsNonDecreasingBy (λ (s : Stamp). ordering_index (nat_cmp s.0 p)) stamps
    comparisons_rise i j d order there = rises (get_or stamps i d).0 (get_or stamps j d).0 p (elim (cases_lt i j) [
      | inl less ↦ let l = up i j d less there in omega arith
      | inr more ↦ let same : i ≡ j = omega arith in omega (arith, ap (λ k. (get_or stamps k d).0) same)
    ])

-- a stamp at its gap keeps the order
pub AreInOrder-insert : (stamps : List Stamp) (p commit place : ℕ) → AreInOrder stamps → IsGapFor stamps p place → AreInOrder (insert stamps place (p, commit))
AreInOrder-insert stamps p commit place up gap i j d less there =
    let new : List Stamp = insert stamps place (p, commit) in
    let position = λ (s : Stamp). s.0 in
    let length_new = length-insert stamps place (p, commit) gap.within in
    let below : (k : ℕ) → k < place → (get_or new k d).0 ≡ (get_or stamps k no_stamp).0 =
    λ k l. ap position (get_or-insert_below stamps place (p, commit) d k l gap.within ∙ get_or_default stamps k d no_stamp (omega (arith, gap.within))) in
    let here : (k : ℕ) → k ≡ place → (get_or new k d).0 ≡ p = λ k same. rw same (ap position (get_or-insert_at stamps place (p, commit) d gap.within)) in
    let above : (k : ℕ) → place < k → k < length new → (get_or new k d).0 ≡ (get_or stamps (k - 1) no_stamp).0 =
    λ k l k_there. subst (λ q. (get_or new q d).0 ≡ (get_or stamps (k - 1) no_stamp).0) {x = k - 1 + 1} (omega arith)
    (ap position (get_or-insert_above stamps place (p, commit) d (k - 1) (omega arith) gap.within ∙ get_or_default stamps (k - 1) d no_stamp (omega arith))) in
    grind (arith, below i, here i, above i, below j, here j, above j, up i j no_stamp, up i (j - 1) no_stamp, up (i - 1) (j - 1) no_stamp, gap.smaller_before i, gap.greater_after (j - 1))

-- a gap's position has no stamp
pub HasNone-gap : (stamps : List Stamp) (p place : ℕ) → IsGapFor stamps p place → HasNone p stamps
HasNone-gap stamps p place gap k d there same =
    let at : (get_or stamps k no_stamp).0 ≡ p = ap (λ (s : Stamp). s.0) (get_or_default stamps k no_stamp d there) ∙ same in
    elim (cases_lt k place) [
      | inl less ↦ let l = gap.smaller_before k less in absurd (omega arith)
      | inr more ↦ let l = gap.greater_after k more there in absurd (omega arith)
    ]

-- a bit that is set besides leaves the stamps at bits that are set
stays_marked : (bits : List Bool) (stamps : List Stamp) (p : ℕ) → get_or bits p false ≡ false → AreMarked bits stamps → AreMarked (set bits p true) stamps
stays_marked bits stamps p unset marked = All-weaker (IsSetIn bits) (IsSetIn (set bits p true)) stays stamps marked
  where
    differ : true ≡ false → ⊥
    differ e = cc

    stays : (s : Stamp) → IsSetIn bits s → IsSetIn (set bits p true) s
    stays s is = get_or-set_other bits p s.0 true false (λ same. differ (sym is ∙ ap (λ q. get_or bits q false) same ∙ unset)) ∙ is

-- one bit more is set
pub count-set : (bits : List Bool) (p : ℕ) → p < length bits → get_or bits p false ≡ false → count_by (λ (bit : Bool). bit) (set bits p true) ≡ count_by (λ (bit : Bool). bit) bits + 1
count-set bits p within unset =
    let new = sum_by-set (λ (bit : Bool). cond bit 1 0) bits p true false within in
    let old = ap (λ (bit : Bool). let n : ℕ = cond bit 1 0 in n) unset in
    omega (arith, new, old)

-- a bit more and its stamp at the gap keep what is kept true
pub AreKept-insert : (bits : List Bool) (stamps : List Stamp) (count p commit place : ℕ) → AreKept bits stamps count → p < length bits → get_or bits p false ≡ false → IsGapFor stamps p place
    → AreKept (set bits p true) (insert stamps place (p, commit)) (count + 1)
AreKept-insert bits stamps count p commit place kept within unset gap =
    let stays = stays_marked bits stamps p unset kept.marked in
    record {
      in_order = AreInOrder-insert stamps p commit place kept.in_order gap;
      marked =
          All-append (IsSetIn (set bits p true)) (take place stamps) _ (All-take (IsSetIn (set bits p true)) place stamps stays)
          (All-cons (IsSetIn (set bits p true)) (p, commit) (drop place stamps) (get_or-set_same bits p true false within) (All-drop (IsSetIn (set bits p true)) place stamps stays));
      counted = omega (arith, kept.counted, count-set bits p within unset);
    }
