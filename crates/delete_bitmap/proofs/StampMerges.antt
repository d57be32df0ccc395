-- Stamps that are merged into others.
use Rattle.std.proofs.Common.{◌≡◌, ℕ, ◌+◌, ◌-◌, ◌<◌, ◌≤◌, List, ◌++◌, length, get_or, take, drop, set, refl, sym, ap, subst, ◌∙◌, arith}
use Rattle.std.proofs.lemmas.List.{get_or-map, get_or-take, get_or_default, length-map, length-take-le}
use Rattle.delete_bitmap.specs.Kept.{Stamp, stamped, no_stamp, AreInOrder, Ascend, HasNone}
use Rattle.merge_laws.proofs.Merging.{IsMerging, IsMerging-start, IsMerging-old, IsMerging-new, All-below_last, AllPairs-front}

-- a stamp stands at a smaller position
abbrev pub IsBefore : Stamp → Stamp → Type 0
IsBefore s t = s.0 < t.0

before_trans : (s t u : Stamp) → IsBefore s t → IsBefore t u → IsBefore s u
before_trans s t u less more = omega arith

pub get_or-stamped : (positions : List ℕ) (commit k p : ℕ) (d : Stamp) → k < length positions → get_or (stamped positions commit) k d ≡ (get_or positions k p, commit)
get_or-stamped positions commit k p d there = get_or-map (λ (p : ℕ). (p, commit)) positions k p d there

pub length-stamped : (positions : List ℕ) (commit : ℕ) → length (stamped positions commit) ≡ length positions
length-stamped positions commit = length-map positions (λ (p : ℕ). (p, commit))

-- stamps of ascending positions are in order
pub in_order-stamped : (positions : List ℕ) (commit : ℕ) → Ascend positions → AreInOrder (stamped positions commit)
in_order-stamped positions commit up i j d less there =
    let short : j < length positions = omega (arith, length-stamped positions commit) in
    let x = ap (λ (s : Stamp). s.0) (get_or-stamped positions commit i 0 d (omega arith)) in
    let y = ap (λ (s : Stamp). s.0) (get_or-stamped positions commit j 0 d short) in
    omega (arith, x, y, up i j 0 less short)

pub merges_start : (stamps others : List Stamp) (count : ℕ) → length stamps ≡ count + length others → AreInOrder (take count stamps) → AreInOrder others
    → IsMerging IsBefore (others ++ take count stamps) (take count stamps) others stamps count (length others)
merges_start stamps others count sized order up =
    IsMerging-start IsBefore (take count stamps) others stamps count (length others) (sym (length-take-le count stamps (omega arith))) refl sized refl order up

module _ (all before others cells : List Stamp) (i j : ℕ) (merging : IsMerging IsBefore all before others cells i j) where
  -- what stands at a place before it was there before
  at_front : (k : ℕ) (d : Stamp) → k < i → get_or cells k d ≡ get_or before k d
  at_front k d less = sym (get_or-take i cells k d less) ∙ ap (λ xs. get_or xs k d) merging.front ∙ get_or-take i before k d less

  pub merges_old : 0 < i → 0 < j → (get_or others (j - 1) no_stamp).0 < (get_or cells (i - 1) no_stamp).0
      → IsMerging IsBefore all before others (set cells (i - 1 + j) (get_or cells (i - 1) no_stamp)) (i - 1) j
  merges_old olds news greater =
      let x : Stamp = get_or cells (i - 1) no_stamp in
      let short : j - 1 < length others = omega (arith, merging.news_left) in
      let there : i - 1 < length before = omega (arith, merging.olds_left) in
      let last : i ≡ i - 1 + 1 = omega arith in
      let is : x ≡ get_or before (i - 1) x = at_front (i - 1) no_stamp (omega arith) ∙ get_or_default before (i - 1) no_stamp x there in
      IsMerging-old IsBefore all before others cells (i - 1) j x (subst (λ n. IsMerging IsBefore all before others cells n j) last merging) is
      (All-below_last IsBefore before_trans others j x (AllPairs-front IsBefore (take j others) (drop (i + j) cells) merging.news_below) merging.news_left
      (λ _. subst (λ (s : Stamp). s.0 < x.0) (get_or_default others (j - 1) no_stamp x short) greater))

  pub merges_new : 0 < j → HasNone (get_or others (j - 1) no_stamp).0 before → (0 < i → (get_or cells (i - 1) no_stamp).0 ≤ (get_or others (j - 1) no_stamp).0)
      → IsMerging IsBefore all before others (set cells (i + (j - 1)) (get_or others (j - 1) no_stamp)) i (j - 1)
  merges_new news apart other =
      let x : Stamp = get_or others (j - 1) no_stamp in
      let short : j - 1 < length others = omega (arith, merging.news_left) in
      let last : j ≡ j - 1 + 1 = omega arith in
      IsMerging-new IsBefore all before others cells i (j - 1) x (subst (λ n. IsMerging IsBefore all before others cells i n) last merging)
      (get_or_default others (j - 1) no_stamp x short)
      (All-below_last IsBefore before_trans before i x (AllPairs-front IsBefore (take i before) (drop (i + j) cells) merging.olds_below) merging.olds_left
      (λ olds.
      let there : i - 1 < length before = omega (arith, merging.olds_left) in
      let up : (get_or before (i - 1) x).0 ≤ x.0 = subst (λ (s : Stamp). s.0 ≤ x.0) (at_front (i - 1) no_stamp (omega arith) ∙ get_or_default before (i - 1) no_stamp x there) (other olds) in
      let differs = apart (i - 1) x there in
      omega (arith, up, differs)))
