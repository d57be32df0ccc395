-- A stretch of a run by its least and greatest key.
use Rattle.std.proofs.Common.{◌≡◌, ℕ, ℤ, ◌+◌, ◌-◌, max, ◌<◌, ◌≤◌, ◌<ℤ◌, ◌≤ℤ◌, inl, inr, Bool, true, false, ◌&&◌, cond, List, [], ◌++◌, length, get_or, drop, take, Option, Some, None, refl, sym, ap, subst, ◌∙◌, length-drop, arith}
use Rattle.std.specs.declared.alloc.Global.{Global}
use Rattle.std.specs.declared.sync.Arc.{Arc}
use Rattle.std.specs.Option.{option_or}
use Rattle.std.specs.Ordering.{is_le, int_cmp}
use Rattle.std.proofs.lemmas.Bool.{cases_lt}
use Rattle.std.proofs.lemmas.Int.{ints}
use Rattle.std.proofs.lemmas.List.{drop_more, get_or-drop, get_or-take, length-take-le, take-append-drop}
use Rattle.cs_types.specs.declared.Key.{Key}
use Rattle.delta_store.specs.declared.run.Run.{Run}
use Rattle.delta_store.specs.Index.{place_in, key_at, no_pair, is_between, AreInOrder, HaveSamePlaces, IsAt, IsGapFor, IsCut, IsStartOf, IsEndOf}
use Rattle.delta_store.specs.Runs.{pairs_in, pairs_of}
use Rattle.delta_store.proofs.Pairs.{place_in-absent, place_in-append}

-- ---- where a key begins and ends

pub start_at : (l : List (Key × ℕ)) → AreInOrder l → (k : Key) (i : ℕ) → IsAt l k i → IsStartOf l k i
start_at l up k i at = record {
  in_range = omega (arith, at.in_range);
  below = λ j less. let rise = up j i less at.in_range in let is = at.has_key in grind (arith, ints);
  from = λ j from within. elim (cases_lt i j) [
    | inl less ↦ let rise = up i j less within in let is = at.has_key in grind (arith, ints)
    | inr over ↦ let same : j ≡ i = omega arith in let is = at.has_key in rw same (grind (arith, ints))
  ];
}

pub start_in_gap : (l : List (Key × ℕ)) (k : Key) (i : ℕ) → IsGapFor l k i → IsStartOf l k i
start_in_gap l k i gap = record {
  in_range = gap.in_range;
  below = gap.smaller_before;
  from = λ j from within. let above = gap.greater_after j from within in grind (arith, ints);
}

pub end_at : (l : List (Key × ℕ)) → AreInOrder l → (k : Key) (i : ℕ) → IsAt l k i → IsEndOf l k (i + 1)
end_at l up k i at = record {
  in_range = omega (arith, at.in_range);
  up_to = λ j less. elim (cases_lt j i) [
    | inl below ↦ let rise = up j i below at.in_range in let is = at.has_key in grind (arith, ints)
    | inr over ↦ let same : j ≡ i = omega arith in let is = at.has_key in rw same (grind (arith, ints))
  ];
  above = λ j from within. let rise = up i j (omega arith) within in let is = at.has_key in grind (arith, ints);
}

pub end_in_gap : (l : List (Key × ℕ)) (k : Key) (i : ℕ) → IsGapFor l k i → IsEndOf l k i
end_in_gap l k i gap = record {
  in_range = gap.in_range;
  up_to = λ j less. let below = gap.smaller_before j less in grind (arith, ints);
  above = gap.greater_after;
}

-- ---- the stretch between

le_is : (a b : ℤ) → is_le (int_cmp a b) ≡ true → b <ℤ a → ⊥
le_is a b le less = grind (arith, ints)

le_of : (a b : ℤ) → a ≤ℤ b → is_le (int_cmp a b) ≡ true
le_of a b le = grind (arith, ints)

both : (a b : Bool) → (a && b) ≡ true → (a ≡ true) × (b ≡ true)
both true true is = (refl, refl)
both true false is = cc
both false b is = cc

option_or-none : (o : Option ℕ) → option_or o None ≡ o
option_or-none None = refl
option_or-none (Some n) = refl

module _ (l : List (Key × ℕ)) (up : AreInOrder l) (least greatest : Key) (from to end : ℕ) (start : IsStartOf l least from) (last : IsEndOf l greatest end) (to_is : to ≡ max end from) where
  abbrev pub front : List (Key × ℕ)
  front = take from l

  abbrev pub stretch : List (Key × ℕ)
  stretch = take (to - from) (drop from l)

  abbrev pub behind : List (Key × ℕ)
  behind = drop (to - from) (drop from l)

  within : to ≤ length l
  within = omega (arith, start.in_range, last.in_range)

  long : length stretch ≡ to - from
  long = length-take-le (to - from) (drop from l) (omega (arith, within, length-drop from l))

  key_in_front : (j : ℕ) → j < length front → key_at front j <ℤ least.0
  key_in_front j there =
      let long_front = length-take-le from l start.in_range in
      let below : j < from = omega (arith, long_front, there) in
      subst (λ z. z <ℤ least.0) (sym (ap (λ (x : Key × ℕ). x.0.0) (get_or-take from l j no_pair below))) (start.below j below)

  key_here : (j : ℕ) → j < length stretch → key_at stretch j ≡ key_at l (from + j)
  key_here j there = ap (λ (x : Key × ℕ). x.0.0) (get_or-take (to - from) (drop from l) j no_pair (omega (arith, long)) ∙ get_or-drop from l j no_pair)

  key_behind : (j : ℕ) → j < length behind → greatest.0 <ℤ key_at behind j
  key_behind j there =
      let long_behind = length-drop (to - from) (drop from l) in
      let long_rest = length-drop from l in
      let here = get_or-drop (to - from) (drop from l) j no_pair ∙ get_or-drop from l (to - from + j) no_pair in
      subst (λ z. greatest.0 <ℤ z) (sym (ap (λ (x : Key × ℕ). x.0.0) here)) (last.above (from + (to - from + j)) (omega arith) (omega (arith, long_behind, long_rest, there)))

  pub stretch_order : AreInOrder stretch
  stretch_order i j less there = rw (key_here i (omega arith), key_here j there) (up (from + i) (from + j) (omega arith) (omega (arith, long, within)))

  parts : front ++ (stretch ++ behind) ≡ l
  parts = ap (λ rest. front ++ rest) (take-append-drop (to - from) (drop from l)) ∙ take-append-drop from l

  pub stretch_cut : IsCut l least greatest stretch
  stretch_cut q = step (is_between least greatest q) refl
    where
      true_is_not_false : true ≡ false → ⊥
      true_is_not_false e = cc

      step : (t : Bool) → is_between least greatest q ≡ t → place_in stretch q ≡ cond t (place_in l q) None
      step true is =
          let ends = both (is_le (int_cmp least.0 q.0)) (is_le (int_cmp q.0 greatest.0)) is in
          let none_front : place_in front q ≡ None = place_in-absent front q (λ j there same. le_is least.0 q.0 ends.0 (rw same at (key_in_front j there))) in
          let none_behind : place_in behind q ≡ None = place_in-absent behind q (λ j there same. le_is q.0 greatest.0 ends.1 (rw same at (key_behind j there))) in
          sym (
          ap (λ pairs. place_in pairs q) (sym parts)
          ∙ place_in-append front (stretch ++ behind) q
          ∙ ap (λ o. option_or o (place_in (stretch ++ behind) q)) none_front
          ∙ place_in-append stretch behind q
          ∙ ap (option_or (place_in stretch q)) none_behind
          ∙ option_or-none (place_in stretch q)
          )
      step false is = place_in-absent stretch q (λ j there same.
          let key : key_at l (from + j) ≡ q.0 = sym (key_here j there) ∙ same in
          let low : is_le (int_cmp least.0 q.0) ≡ true = le_of least.0 q.0 (rw key at (start.from (from + j) (omega arith) (omega (arith, there, long, within)))) in
          let high : is_le (int_cmp q.0 greatest.0) ≡ true = le_of q.0 greatest.0 (rw key at (last.up_to (from + j) (omega (arith, there, long)))) in
          absurd (true_is_not_false (sym (rw (low, high) refl) ∙ is)))

-- ---- cuts of several runs

-- a cut of a newer index and one of an older run are together a cut of both
pub cut_both : (newer older in_newer in_older merged : List (Key × ℕ)) (least greatest : Key) → IsCut newer least greatest in_newer → IsCut older least greatest in_older → HaveSamePlaces (in_newer ++ in_older) merged → IsCut (newer ++ older) least greatest merged
cut_both newer older in_newer in_older merged least greatest cut_newer cut_older same q =
    same q
    ∙ place_in-append in_newer in_older q
    ∙ ap (λ o. option_or o (place_in in_older q)) (cut_newer q)
    ∙ ap (option_or (cond (is_between least greatest q) (place_in newer q) None)) (cut_older q)
    ∙ step (is_between least greatest q)
    ∙ ap (λ o. cond (is_between least greatest q) o None) (sym (place_in-append newer older q))
  where
    step : (t : Bool) → option_or (cond t (place_in newer q) None) (cond t (place_in older q) None) ≡ cond t (option_or (place_in newer q) (place_in older q)) None
    step true = refl
    step false = refl

-- no pair is a cut of no pairs
pub cut_none : (least greatest : Key) → IsCut [] least greatest []
cut_none least greatest q = step (is_between least greatest q) None
  where
    step : (t : Bool) (o : Option ℕ) → o ≡ cond t o o
    step true o = refl
    step false o = refl

-- the runs from a place on have the pairs of those after it and then its own
pub pairs_of-drop : (runs : List (Arc Run Global)) (i : ℕ) (run : Arc Run Global) → i < length runs → run ≡ get_or runs i run → pairs_of (drop i runs) ≡ pairs_of (drop (i + 1) runs) ++ pairs_in run
pairs_of-drop runs i run there is = ap pairs_of (drop_more runs i run there) ∙ ap (λ r. pairs_of (drop (i + 1) runs) ++ pairs_in r) (sym is)
